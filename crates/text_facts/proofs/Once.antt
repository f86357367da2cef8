-- One meaning: of a number, of a time, of a line, and of a text.
use Rattle.form.proofs.Numbers.{number_once}
use Rattle.form.proofs.Times.{time_once}
use Rattle.form.proofs.Lines.{line_once}
use Rattle.form.proofs.Text.{text_once}
use Rattle.text_facts.specs.Claims.{OneValue, OneTime, OneTask, OneText}

pub one_value : OneValue
one_value = number_once

pub one_time : OneTime
one_time = time_once

pub one_task : OneTask
one_task = line_once

pub one_text : OneText
one_text = text_once

-- The accident's texts, worked out.
use mathlib.Core.Path.{refl}
use Rattle.laws.specs.Joined.{joined}
use Rattle.model.specs.Limits.{cost}
use Rattle.model.specs.Rules.{first_broken, range_rules, room_rules}
use Rattle.order_out.specs.Write.{written_rules}
use Rattle.form.specs.Bytes.{bytes_of}
use Rattle.form.specs.Parts.{count, up_to, behind_all}
use Rattle.form.specs.Numbers.{all_digits, value_of}
use Rattle.form.specs.Times.{is_time, ticks_of}
use Rattle.form.specs.Lines.{is_line, line_task, numbers_fit}
use Rattle.form.specs.Text.{typed_line, is_unfinished, line_count, text_order}
use Rattle.text.specs.Read.{shaped, typed_fits, line_rules, text_rules, read_text_rules, read_text_answer}
use Rattle.text_facts.specs.Cases.{Cases}

pub cases : Cases
unfolding bytes_of joined count up_to behind_all all_digits value_of is_time ticks_of is_line line_task numbers_fit typed_line is_unfinished line_count text_order cost first_broken range_rules room_rules written_rules shaped typed_fits line_rules text_rules read_text_rules read_text_answer
cases =
    record {
      named = refl;
      with_comma = record { done = refl; typed = refl };
      with_point = record { done = refl; typed = refl };
      whole = record { done = refl; typed = refl };
      least = record { done = refl; typed = refl };
      zeros = record { done = refl; typed = refl };
      blank = refl;
      thousandths = refl;
      no_whole = refl;
      no_decimals = refl;
      signed = refl;
      cut = refl;
      returned = refl;
      unfinished = refl;
      empty_line = refl;
      over = refl;
      long = refl;
      shape_first = refl;
      line_first = refl;
      unfinished_over = refl;
      width_over = refl;
      most_lines = refl;
      line_more = refl;
      line_begun = refl;
      no_processors = refl;
      no_lines = refl;
    }

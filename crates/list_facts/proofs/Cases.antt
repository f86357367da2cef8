-- The lists of some sets, and the sets of some texts, worked out.
use mathlib.Core.Path.{refl}
use Rattle.model.specs.Rules.{first_broken}
use Rattle.sets.specs.Sets.{has, word_of, union}
use Rattle.form.specs.Bytes.{bytes_of}
use Rattle.form.specs.Parts.{count, up_to}
use Rattle.form.specs.Numbers.{digits_of, value_of}
use Rattle.form.specs.Written.{last_digits, digit_count, numeral}
use Rattle.list_form.specs.Items.{item_set, items_set}
use Rattle.list_form.specs.Runs.{begins_run, run_end, runs_from, runs_of}
use Rattle.list_form.specs.ListText.{item_text, items_text, list_text}
use Rattle.list.specs.Read.{number_rules, end_rules, last_rules, more_rules, item_rules, items_rules, content_rules, list_rules, list_answer, item_of, items_in, items_of, read_list}
use Rattle.list_facts.specs.Cases.{ListCases}

pub list_cases : ListCases
unfolding has word_of union bytes_of count up_to digits_of value_of first_broken item_set items_set number_rules end_rules last_rules more_rules item_rules items_rules content_rules list_rules list_answer item_of items_in items_of read_list last_digits digit_count numeral begins_run run_end runs_from runs_of item_text items_text list_text
list_cases =
    record {
      dashed = refl;
      none = refl;
      alone = refl;
      pair = refl;
      apart = refl;
      named = refl;
      last = refl;
      all = refl;
      longest = refl;
      most_bytes = refl;
      empty = refl;
      unsorted = refl;
      overlapping = refl;
      zeros = refl;
      one_range = refl;
      sixty_three = refl;
      blank = refl;
      line_feed_lem = refl;
      stride = refl;
      two_dashes = refl;
      two_commas = refl;
      comma_first = refl;
      comma_last = refl;
      dash_last = refl;
      over = refl;
      over_zeros = refl;
      over_long = refl;
      falling = refl;
      over_before_broken = refl;
      falling_before_broken = refl;
      broken_before_over = refl;
    }

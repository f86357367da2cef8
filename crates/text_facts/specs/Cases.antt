-- The accident, over whole texts: what is typed here is read as these ticks, or refused at its line.
use Rattle.std.specs.Prelude.{ℕ, ◌≡◌, List, [], ◌∷◌, ◌++◌, Ok, Err}
use Prim.Native.String.{String}
use Rattle.laws.specs.Joined.{joined}
use Rattle.model.specs.declared.order.Task.{Task}
use Rattle.model.specs.declared.answer.Refusal.TheVariants.{OfOrder, OfText}
use Rattle.model.specs.declared.answer.TextCause.TheVariants.{LineShape, LineNumber, LineCount}
use Rattle.model.specs.declared.answer.OrderCause.TheVariants.{Processors, Tasks}
use Rattle.model.specs.Layouts.{order_length}
use Rattle.form.specs.Bytes.{bytes_of, zero_digit, nine_digit, comma, point, semicolon, line_feed}
use Rattle.form.specs.Text.{typed_task}
use Rattle.text.specs.Read.{read_text_answer}

abbrev pub times : (period deadline run : ℕ) → Task
times period deadline run = record { width = 1; period = period; deadline = deadline; run = run }

-- on four processors: the text is one line, and is accepted as this task
pub record ReadAs (text : String) (t : Task) : Type 0 where
  pub done : read_text_answer 4 (bytes_of text) 12 ≡ Ok (order_length 1 1)
  pub typed : typed_task (bytes_of text) 0 ≡ t

-- the text is refused 50 at this line
abbrev pub Unshaped : String → ℕ → Type 0
Unshaped text line = read_text_answer 4 (bytes_of text) 291 ≡ Err (OfText (LineShape line))

abbrev pub Over : String → ℕ → Type 0
Over text line = read_text_answer 4 (bytes_of text) 291 ≡ Err (OfText (LineNumber line))

-- so many lines of one task
abbrev pub lines_of : ℕ → List ℕ
lines_of n = joined (λ i. bytes_of "1;75;75;75\n") n

pub record Cases : Type 0 where
  -- the bytes have their names
  pub named : bytes_of "09,.;\n" ≡ zero_digit ∷ nine_digit ∷ comma ∷ point ∷ semicolon ∷ line_feed ∷ []
  -- "7,5 is 750 ticks and 0.01 is 1"
  pub with_comma : ReadAs "1;7,5;7,5;7,5\n" (times 750 750 750)
  pub with_point : ReadAs "1;7.50;7.5;7,50\n" (times 750 750 750)
  pub whole : ReadAs "1;75;75;7,5\n" (times 7500 7500 750)
  pub least : ReadAs "1;75;0,1;0.01\n" (times 7500 10 1)
  pub zeros : ReadAs "0001;0075;0007.50;07,5\n" (times 7500 750 750)
  -- not of this shape, at the line where it is not
  pub blank : Unshaped "1;75;75;75\n1;75;75;7,5 \n" 1
  pub thousandths : Unshaped "1;75;75;75\n1;75;75;7,505\n" 1
  pub no_whole : Unshaped "1;75;75;75\n1;75;75;,5\n" 1
  pub no_decimals : Unshaped "1;75;75;75\n1;75;75;7,\n" 1
  pub signed : Unshaped "1;75;75;75\n1;75;75;+7\n" 1
  pub cut : Unshaped "1;75;75;75\n1;75;75;7;5\n" 1
  pub returned : Unshaped "1;75;75;75\n1;75;75;7,5\r\n" 1
  pub unfinished : Unshaped "1;75;75;75\n1;75;75;7,5" 1
  pub empty_line : Unshaped "\n1;75;75;75\n" 0
  -- "51 a number over 1,048,575 (times in ticks)": by its value, and not by its length
  pub over : Over "1;10485.76;75;75\n" 0
  pub long : Over "1;99999999999999999999999999;75;75\n" 0
  -- 50 before 51 in a line, and line by line
  pub shape_first : Unshaped "1;10485.76;75;+7\n" 0
  pub line_first : Over "1;10485.76;75;75\n1;75;75;+7\n" 0
  -- "an unfinished line is 50 whatever its numbers", and "51 applies to" m too
  pub unfinished_over : Unshaped "1;10485.76;75;75" 0
  pub width_over : Over "1048576;75;75;75\n" 0
  -- "52 (before M is looked at)", an unfinished last line counted
  pub most_lines : read_text_answer 4 (lines_of 32) 291 ≡ Ok 291
  pub line_more : read_text_answer 0 (lines_of 33) 291 ≡ Err (OfText LineCount)
  pub line_begun : read_text_answer 0 (lines_of 32 ++ bytes_of "x") 291 ≡ Err (OfText LineCount)
  -- "Empty text has no lines: 3 or 4."
  pub no_processors : read_text_answer 0 (bytes_of "") 291 ≡ Err (OfOrder Processors)
  pub no_lines : read_text_answer 4 (bytes_of "") 291 ≡ Err (OfOrder Tasks)

-- Sets and the lists that are written of them, and texts as they are read or refused, worked out.
use Rattle.std.specs.Prelude.{ℕ, ◌-◌, ◌^◌, ◌≡◌, [], ◌∷◌, length, Ok, Err}
use Prim.Native.String.{String}
use Rattle.model.specs.declared.answer.Refusal.TheVariants.{OfList}
use Rattle.model.specs.declared.answer.ListCause.{ListCause}
use Rattle.model.specs.declared.answer.ListCause.TheVariants.{ListShape, ListNumber, ListRange}
use Rattle.form.specs.Bytes.{bytes_of}
use Rattle.list_form.specs.Items.{dash}
use Rattle.list_form.specs.ListText.{list_text, most_list_bytes}
use Rattle.list.specs.Read.{read_list}

abbrev pub WrittenAs : ℕ → String → Type 0
WrittenAs set text = list_text set ≡ bytes_of text

-- the text is read as this set
abbrev pub ListedAs : String → ℕ → Type 0
ListedAs text set = read_list (bytes_of text) ≡ record { answer = Ok 0; set = set }

-- the text is refused for this cause
abbrev pub NotListed : String → ListCause → Type 0
NotListed text cause = read_list (bytes_of text) ≡ record { answer = Err (OfList cause); set = 0 }

-- two of each three processors, and the last
abbrev pub longest_set : ℕ
longest_set = 13176245766935394011

pub record ListCases : Type 0 where
  -- the byte has its name
  pub dashed : bytes_of "-" ≡ dash ∷ []
  -- "the empty list is the empty set"
  pub none : WrittenAs 0 ""
  -- "touching numbers joined, a pair as a range, a single one alone"
  pub alone : WrittenAs 32 "5"
  pub pair : WrittenAs 3 "0-1"
  pub apart : WrittenAs 5 "0,2"
  -- "as `0-3,7`"
  pub named : WrittenAs 143 "0-3,7"
  pub last : WrittenAs (2 ^ 63) "63"
  pub all : WrittenAs (2 ^ 64 - 1) "0-63"
  -- none is longer, and this one is as long
  pub longest : WrittenAs longest_set "0-1,3-4,6-7,9-10,12-13,15-16,18-19,21-22,24-25,27-28,30-31,33-34,36-37,39-40,42-43,45-46,48-49,51-52,54-55,57-58,60-61,63"
  pub most_bytes : length (list_text longest_set) ≡ most_list_bytes
  -- "Read any such list back, unsorted or overlapping too", "Leading zeros are read"
  pub empty : ListedAs "" 0
  pub unsorted : ListedAs "7,0-3" 143
  pub overlapping : ListedAs "0-2,1-3,7,7" 143
  pub zeros : ListedAs "00-003,0007" 143
  pub one_range : ListedAs "7-7" 128
  pub sixty_three : ListedAs "63" (2 ^ 63)
  -- 60: what no list could have there, and a text that stops short
  pub blank : NotListed "0, 1" (ListShape 2)
  pub line_feed_lem : NotListed "0-3\n" (ListShape 3)
  pub stride : NotListed "0-7/2" (ListShape 3)
  pub two_dashes : NotListed "0-1-2" (ListShape 3)
  pub two_commas : NotListed "0,,1" (ListShape 2)
  pub comma_first : NotListed ",1" (ListShape 0)
  pub comma_last : NotListed "0-3," (ListShape 4)
  pub dash_last : NotListed "3-" (ListShape 2)
  -- 61: "a number over 63, at its first digit"
  pub over : NotListed "0-64" (ListNumber 2)
  pub over_zeros : NotListed "1,0064" (ListNumber 2)
  pub over_long : NotListed "1,99999999999999999999999999" (ListNumber 2)
  -- 62: "a range that falls, at its second number"
  pub falling : NotListed "1,5-3" (ListRange 4)
  -- "the lowest place decides"
  pub over_before_broken : NotListed "64x" (ListNumber 0)
  pub falling_before_broken : NotListed "5-3x" (ListRange 2)
  pub broken_before_over : NotListed "1x64" (ListShape 1)

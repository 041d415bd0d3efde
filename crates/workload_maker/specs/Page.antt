-- A text that is written line by line, while numbers are drawn.
use Rattle.std.specs.Prelude.{ℕ, zero, suc, ◌+◌, ◌*◌, ◌%◌, List, ◌++◌}

-- the text so far, and the number that was drawn from last
pub record Page : Type 0 where
  pub text : List ℕ
  pub state : ℕ

-- with further lines
abbrev pub put : List ℕ → Page → Page
put lines page = record { text = page.text ++ lines; state = page.state }

abbrev pub next : ℕ → ℕ
next state = (75 * state + 74) % 65537

-- a number below m is drawn from the next state
abbrev pub draw : ℕ → Page → ℕ
draw m page = next page.state % m

-- the page behind that
abbrev pub drawn : Page → Page
drawn page = record { text = page.text; state = next page.state }

-- with what is put for 1, then for 2, and so on up to a number
abbrev pub upto : (ℕ → Page → Page) → ℕ → Page → Page
upto put_one zero page = page
upto put_one (suc n) page = put_one (suc n) (upto put_one n page)

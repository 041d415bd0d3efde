-- What a field of a line is.
use Rattle.std.specs.Prelude.{◌≡◌, ℕ, ◌<◌, false, List, ◌||◌, length, nat_eq}
use Rattle.std.specs.List.{AllByRecursion}
use Rattle.smps_words.specs.Line.{is_blank}

-- a name is a field: at least one byte, none of them a blank or a line feed
pub record IsField (name : List ℕ) : Type 0 where
  pub some : 0 < length name
  pub unbroken : AllByRecursion (λ byte. (is_blank byte || nat_eq byte 10) ≡ false) name

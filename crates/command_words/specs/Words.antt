-- The words of a command.
use Rattle.std.specs.Prelude.{◌≡◌, ℕ, Bool, true, false, List, [], ◌∷◌, ◌++◌, length, Option, Some, None}
use Rattle.std.specs.Prelude.{is_none, is_some, map, option_map, codes}
use Rattle.std.specs.Prelude.{if◌then◌else◌, nat_eq, leb, ltb, ◌==◌, not, ◌&&◌, ◌||◌}
use Rattle.std.specs.Cmp.Lexicographic.{pointwise}
use Rattle.std.specs.Coded.{Coded-set, coded_list, coded_option, coded_ℕ}
use Rattle.std.specs.List.{position_or_len, before_first, after_first}
use Rattle.frac128.specs.Numbers.{is_digit, number_from}
use Rattle.command_words.specs.declared.flag.Flag.{Flag}
use Rattle.command_words.specs.declared.flag.Flag.TheVariants.{Solves, Pivots, Workers, Quiet}
use Rattle.command_words.specs.declared.table.ValueKind.{ValueKind}
use Rattle.command_words.specs.declared.table.ValueKind.TheVariants.{File, Number, Page, Form, Yes, Level, Weight}
use Rattle.command_words.specs.declared.command.Verb.{Verb}
use Rattle.command_words.specs.declared.command.Budget.{Budget}
use Rattle.command_words.specs.Table.{all_flags, all_verbs, flag_text, value_kind, verb_text}

-- ---- values

-- a value isn't empty, and doesn't begin with a minus (45)
abbrev pub is_value : List ℕ → Bool
is_value [] = false
is_value (byte ∷ _) = not (nat_eq byte 45)

-- each byte is a digit
abbrev pub are_digits : List ℕ → Bool
are_digits [] = true
are_digits (byte ∷ bytes) = is_digit byte && are_digits bytes

-- a number has 1 to 10 decimal digits
abbrev pub number_of : List ℕ → Option ℕ
number_of word =
    if (not (nat_eq (length word) 0) && leb (length word) 10) && are_digits word then Some (number_from 0 word) else None

abbrev pub kept_within : ℕ → ℕ → Option ℕ → Option ℕ
kept_within least most None = None
kept_within least most (Some number) = if leb least number && leb number most then Some number else None

abbrev pub number_within : List ℕ → ℕ → ℕ → Option ℕ
number_within word least most = kept_within least most (number_of word)

-- ---- options

abbrev pub same_text : List ℕ → List ℕ → Bool
same_text = pointwise nat_eq

-- the one of some options that has this name, with its two minuses (45)
abbrev pub flag_among : List ℕ → List Flag → Option Flag
flag_among word [] = None
flag_among word (flag ∷ flags) = if same_text word (45 ∷ 45 ∷ flag_text flag) then Some flag else flag_among word flags

abbrev pub flag_named : List ℕ → Option Flag
flag_named word = flag_among word all_flags

-- an option with its value
pub record Given : Type 0 where
  pub flag : Flag
  pub value : List ℕ

abbrev pub valued : Option Flag → List ℕ → Option Given
valued None value = None
valued (Some flag) value = if is_value value then Some (record { flag = flag; value = value }) else None

abbrev pub setting_of : List ℕ → List ℕ → Option Given
setting_of name value = valued (flag_named name) value

-- an option that stands alone says yes
abbrev pub switch_by_kind : Flag → ValueKind → Option Given
switch_by_kind flag File = None
switch_by_kind flag (Number least most) = None
switch_by_kind flag Page = None
switch_by_kind flag Form = None
switch_by_kind flag Yes = Some (record { flag = flag; value = codes "yes" })
switch_by_kind flag Level = None
switch_by_kind flag Weight = None

abbrev pub switch_by : Flag → Option Given
switch_by flag = switch_by_kind flag (value_kind flag)

abbrev pub switch_among : Option Flag → Option Given
switch_among None = None
switch_among (Some flag) = switch_by flag

abbrev pub switch_of : List ℕ → Option Given
switch_of word = switch_among (flag_named word)

-- options are told apart by their names
abbrev pub same_flag : Flag → Flag → Bool
same_flag one other = same_text (flag_text one) (flag_text other)

abbrev pub has_flag : Flag → List Flag → Bool
has_flag flag [] = false
has_flag flag (other ∷ flags) = same_flag other flag || has_flag flag flags

-- an option with its value in one word, `--name=value`
abbrev pub plain_word : Given → List ℕ
plain_word s = 45 ∷ 45 ∷ (flag_text s.flag ++ 61 ∷ s.value)

abbrev pub is_equals : ℕ → Bool
is_equals byte = byte == 61

abbrev pub has_equals : List ℕ → Bool
has_equals word = ltb (position_or_len is_equals word) (length word)

abbrev pub then_some : {A B : Type 0} → Option A → (A → Option B) → Option B
then_some None f = None
then_some (Some a) f = f a

-- a word cut at its first `=`, where it has one
abbrev pub cut : List ℕ → Option (List ℕ × List ℕ)
cut word = if has_equals word then Some (before_first is_equals word, after_first is_equals word) else None

-- the setting of a word that was cut, and what comes of it; else the other
abbrev pub after_cut : {X : Type 0} → Option (List ℕ × List ℕ) → Option X → (Given → Option X) → Option X
after_cut None other f = other
after_cut (Some parts) other f = then_some (setting_of parts.0 parts.1) f

-- what comes of the setting of an option that stands alone; else the other
abbrev pub after_switch : {X : Type 0} → Option Given → Option X → (Given → Option X) → Option X
after_switch None other f = other
after_switch (Some s) other f = f s

-- the options behind those that are read: `--name=value` is one word, cut at its first `=`, `--name` one where it stands alone, and
-- `--name value` two
abbrev pub settings_from : List Given → List (List ℕ) → Option (List Given)
settings_from done [] = Some done
settings_from done (word ∷ []) =
    after_cut (cut word) (after_switch (switch_of word) None (λ s. Some (done ++ s ∷ []))) (λ s. Some (done ++ s ∷ []))
settings_from done (word ∷ next ∷ words) =
    after_cut (cut word)
    (after_switch (switch_of word) (then_some (setting_of word next) (λ s. settings_from (done ++ s ∷ []) words))
    (λ s. settings_from (done ++ s ∷ []) (next ∷ words)))
    (λ s. settings_from (done ++ s ∷ []) (next ∷ words))

abbrev pub settings_of : List (List ℕ) → Option (List Given)
settings_of = settings_from []

-- the words are options, each with its value in one word
abbrev pub ArePlain : List (List ℕ) → Type 0
ArePlain words = option_map (map plain_word) (settings_of words) ≡ Some words

pub ArePlain-prop : (words : List (List ℕ)) → IsProp (ArePlain words)
ArePlain-prop words =
    Coded-set (coded_option (coded_list (coded_list coded_ℕ))) (option_map (map plain_word) (settings_of words)) (Some words)

-- the value of the first setting of this option
abbrev pub value_with : Flag → List Given → Option (List ℕ)
value_with flag [] = None
value_with flag (s ∷ settings) = if same_flag s.flag flag then Some s.value else value_with flag settings

-- no option stands twice
abbrev pub are_once : List Given → Bool
are_once [] = true
are_once (s ∷ settings) = is_none (value_with s.flag settings) && are_once settings

-- ---- verbs and numbers

abbrev pub verb_among : List ℕ → List Verb → Option Verb
verb_among word [] = None
verb_among word (verb ∷ verbs) = if same_text word (verb_text verb) then Some verb else verb_among word verbs

abbrev pub verb_named : List ℕ → Option Verb
verb_named word = verb_among word all_verbs

-- the number of a value of this kind, within its range
abbrev pub number_for : ValueKind → List ℕ → Option ℕ
number_for File word = None
number_for (Number least most) word = number_within word least most
number_for Page word = None
number_for Form word = None
number_for Yes word = None
number_for Level word = None
number_for Weight word = None

-- the number of an option, or the number that stands for an absent one
abbrev pub number_or : ℕ → Flag → Option (List ℕ) → Option ℕ
number_or absent flag None = Some absent
number_or absent flag (Some word) = number_for (value_kind flag) word

-- the number of an option that is needed
abbrev pub number_given : Flag → Option (List ℕ) → Option ℕ
number_given flag None = None
number_given flag (Some word) = number_for (value_kind flag) word

-- whether an option that stands alone is there; its value is yes
abbrev pub is_set : Option (List ℕ) → Option Bool
is_set None = Some false
is_set (Some word) = if same_text word (codes "yes") then Some true else None

-- with whether the words state how many solves, and how many pivots; what is said while it is solved changes nothing
abbrev pub budget_by : Bool → Bool → Option ℕ → Option ℕ → Option ℕ → Option Bool → Option Budget
budget_by of_solves of_pivots solves pivots workers quiet =
    then_some solves (λ s. then_some pivots (λ p. then_some workers (λ w. then_some quiet (λ q.
    Some (record { solves = s; solves_stated = of_solves; pivots = p; pivots_stated = of_pivots })))))

-- what each option has as its value, if it is there
abbrev pub Values : Type 0
Values = Flag → Option (List ℕ)

-- of solves and of pivots 100,000 where the words don't say how many; of workers one
abbrev pub budget_of : Values → Option Budget
budget_of value = budget_by (is_some (value Solves)) (is_some (value Pivots))
    (number_or 100000 Solves (value Solves))
    (number_or 100000 Pivots (value Pivots))
    (number_or 1 Workers (value Workers))
    (is_set (value Quiet))

-- The rows of TimeValues, computed; those on cores go by the names that the file gives them.
use Rattle.std.proofs.Common.{◌≡◌, ◌++◌, ap, ap₂, ℕ, suc, List, [], ◌∷◌, take, Option, refl}
use Rattle.std.specs.Prelude.{◌^◌, codes, length}
use Rattle.std.proofs.lemmas.Bool.{ltb-true}
use Rattle.rationals.specs.Rational.{◌÷◌, ◌+ℚ◌, neg_ℚ, zero_ℚ, reduce, smaller, divides, nat_divides}
use Rattle.smps_words.specs.Names.{place_of}
use Rattle.core_defs.specs.declared.program.Core.{Core}
use Rattle.core_defs.specs.Means.{TextMeans}
use Rattle.smps_words.specs.Line.{line_of}
use Rattle.core_defs.proofs.Texts.{core_file_laws}
use Rattle.time_defs.specs.Stated.{start_row, if_there, started, row_stage, column_stage}
use Rattle.worked_values.specs.Told.{lines_told}
use Rattle.worked_values.specs.TimeValues.{mix, by_starts, TimeFilesAreAsDocumented}
use Rattle.worked_values.proofs.NamedParts.{mix_named, start_placed, start_named}

start_in_mix : (core : Core) → TextMeans mix core → (name : List ℕ) → start_row core name ≡ start_placed (codes "COST") name (place_of (codes "LIM1" ∷ codes "NEED" ∷ codes "SUM" ∷ []) name)
start_in_mix core means name = start_named core _ _ _ _ (mix_named core means) name

column_started : (core : Core) → TextMeans mix core → (j : ℕ) → column_stage (by_starts core) j [] ≡ started (0 ∷ 1 ∷ []) j
column_started core means j = ap (λ (names : List (List ℕ)). started (if_there (place_of names (codes "A")) ++ (if_there (place_of names (codes "B")) ++ [])) j) (mix_named core means).columns_are

row_started : (core : Core) → TextMeans mix core → (i : ℕ) → row_stage (by_starts core) i [] ≡ started (0 ∷ 2 ∷ []) (suc i)
row_started core means i =
    ap₂ (λ (one other : Option ℕ). started (if_there one ++ (if_there other ++ [])) (suc i)) (start_in_mix core means (codes "COST")) (start_in_mix core means (codes "NEED"))

pub time_files : TimeFilesAreAsDocumented
unfolding ◌÷◌ ◌+ℚ◌ neg_ℚ zero_ℚ reduce smaller divides nat_divides
time_files = record {
  time = refl;
  periods = refl;
  no_rows = refl;
  no_columns = refl;
  end = refl;
  named_time = refl;
  named_periods = refl;
  named_rows = refl;
  named_columns = refl;
  named_end = refl;
  other = refl;
  small_letters = refl;
  places = refl;
  before_all = refl;
  alone = refl;
  explicit = refl;
  word_skipped = refl;
  not_directly = refl;
  period = refl;
  period_alone = refl;
  of_time = refl;
  row_named = refl;
  row_period = refl;
  column_named = refl;
  column_period = refl;
  of_another = refl;
  objective = λ core means. start_in_mix core means (codes "COST");
  first_row = λ core means. start_in_mix core means (codes "LIM1");
  second_row = λ core means. start_in_mix core means (codes "NEED");
  third_row = λ core means. start_in_mix core means (codes "SUM");
  skipped = λ core means. start_in_mix core means (codes "WEIGHT");
  row_unknown = λ core means. start_in_mix core means (codes "A");
  a_started = λ core means. column_started core means 0;
  b_started = λ core means. column_started core means 1;
  limit_started = λ core means. row_started core means 0;
  need_started = λ core means. row_started core means 1;
  sum_started = λ core means. row_started core means 2;
  a_placed = λ core. refl;
  b_placed = λ core. refl;
  limit_placed = λ core. refl;
  need_placed = λ core. refl;
  sum_placed = λ core. refl;
  a_core = (core_file_laws.meaning mix (ltb-true (length mix) (2 ^ 63) refl) (record {
    number = 16;
    read = lines_told mix;
    whole = record {
      read = take 15 (lines_told mix);
      line = line_of 16 (codes "ENDATA");
      rest = [];
      split = refl;
      fit = (refl, refl, (refl, refl, (refl, refl, (refl, refl, (refl, refl, (refl, refl, (refl, refl, (refl, refl, (refl, refl, (refl, refl, (refl, refl, (refl, refl, (refl, refl, (refl, refl, (refl, refl, (refl, refl, tt))))))))))))))));
      end = refl;
      number_is = refl;
      is = refl;
    };
    columns = refl;
  }));
}

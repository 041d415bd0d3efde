-- With cores of the same parts a stoch file is read alike.
use Rattle.std.proofs.Common.{◌≡◌, ℕ, ◌-◌, not, List, [], ◌∷◌, Option, Some, None, Ok, Err, refl, length, get_or, ◌||◌}
use Rattle.std.proofs.Common.{if◌then◌else◌}
use Rattle.std.specs.Prelude.{is_some, nat_eq, nat_lt}
use Rattle.rationals.specs.Rational.{ℚ}
use Rattle.smps_words.specs.Line.{TextLine, reading_of}
use Rattle.smps_words.specs.declared.entry.Entry.{Entry}
use Rattle.refusals.specs.declared.cause.Cause.TheVariants as cause
use Rattle.refusals.specs.Results.{◌>>=◌, needs}
use Rattle.refusals.specs.Results.{on_line}
use Rattle.core_defs.specs.declared.program.Core.{Core}
use Rattle.core_defs.specs.Laws.{AreSame}
use Rattle.core_defs.specs.Number.{number_of}
use Rattle.reader_defs.specs.Reader.{read_from}
use Rattle.time_defs.specs.Means.{Stages}
use Rattle.stoch_defs.specs.declared.section.StochSection.{StochSection}
use Rattle.stoch_defs.specs.declared.section.StochSection.TheVariants as sections
use Rattle.stoch_defs.specs.Entries.{stage_of, is_late}
use Rattle.time_defs.specs.Step.{at_line}
use Rattle.stoch_defs.specs.File.{stoch_file, read_random}
use Rattle.stoch_defs.specs.Finish.{random_of}
use Rattle.stoch_defs.specs.Section.{is_end}
use Rattle.stoch_defs.specs.Stated.{Stated, nothing_stated, place_of_entry, no_case, no_branch, path_among, paths_of}
use Rattle.stoch_defs.specs.Step.{known_entry, resulting, probability_of, later_period, with_single, with_single_case, with_set}
use Rattle.stoch_defs.specs.Step.{add_single, single_case, indep_at, indep_line, owned_by, case_sets, case_pair, if_in_work}
use Rattle.stoch_defs.specs.Step.{block_line, branch_sets, branch_pair, branch_head, is_head, branch_line, header_line, data_line, step}
use Rattle.meaning_laws.proofs.Entries.{entry_same, value_same, value_behind_same}

module _ (c d : Core) (same : AreSame c d) (p : Stages) where
  known_same : (column row : List ℕ) → known_entry c p column row ≡ known_entry d p column row
  unfolding known_entry
  known_same column row = λ i.
      needs cause.EntryUnknown (entry_same c d same column row i) >>= λ entry. if is_late p entry then Err cause.EntryStage else Ok entry

  -- ---- INDEP

  add_single_same : (s : Stated) (entry : Entry) (value probability : ℚ) (block : ℕ)
      → add_single c s entry value probability block ≡ add_single d s entry value probability block
  add_single_same s entry value probability block = λ i.
      resulting s.place.mode (value_same c d same entry i) value >>= λ result. Ok (with_single_case s block probability entry result)

  single_case_same : (s : Stated) (entry : Entry) (value probability : ℚ) (period : ℕ) (place : Option ℕ)
      → single_case c s entry value probability period place ≡ single_case d s entry value probability period place
  single_case_same s entry value probability period None = λ i.
      if is_some (place_of_entry s.owned entry) then Err cause.EntryTwice
      else add_single_same (with_single s entry period) entry value probability (length s.blocks) i
  single_case_same s entry value probability period (Some place) = λ i.
      if not (nat_eq (get_or s.blocks (get_or s.single_blocks place 0) 0) period) then Err cause.EntryStage
      else add_single_same s entry value probability (get_or s.single_blocks place 0) i

  indep_at_same : (s : Stated) (entry : Entry) (value : ℚ) (period : ℕ) (word : List ℕ)
      → indep_at c p s entry value period word ≡ indep_at d p s entry value period word
  unfolding indep_at
  indep_at_same s entry value period word = λ i.
      probability_of word >>= λ probability.
      if nat_eq period 0 || nat_lt (stage_of p entry) period then Err cause.EntryStage
      else single_case_same s entry value probability period (place_of_entry s.singles entry) i

  indep_line_same : (s : Stated) (fields : List (List ℕ)) → indep_line c p s fields ≡ indep_line d p s fields
  unfolding indep_line
  indep_line_same s (column ∷ row ∷ word ∷ probability ∷ []) = λ i.
      known_same column row i >>= λ entry. number_of word >>= λ value. indep_at_same s entry value (stage_of p entry) probability i
  indep_line_same s (column ∷ row ∷ word ∷ name ∷ probability ∷ []) = λ i.
      known_same column row i >>= λ entry. number_of word >>= λ value.
      needs cause.EntryStage (later_period p name) >>= λ period. indep_at_same s entry value period probability i
  indep_line_same s [] = refl
  indep_line_same s (_ ∷ []) = refl
  indep_line_same s (_ ∷ _ ∷ []) = refl
  indep_line_same s (_ ∷ _ ∷ _ ∷ []) = refl
  indep_line_same s (_ ∷ _ ∷ _ ∷ _ ∷ _ ∷ _ ∷ _) = refl

  -- ---- BLOCKS

  case_sets_same : (s : Stated) (block : ℕ) (entry : Entry) (value : ℚ) → case_sets c p s block entry value ≡ case_sets d p s block entry value
  case_sets_same s block entry value = λ i.
      if nat_lt (stage_of p entry) (get_or s.blocks block 0) then Err cause.EntryStage
      else (if is_some (place_of_entry s.entries entry) then Err cause.EntryTwice
      else (owned_by s entry block >>= λ (t : Stated). resulting t.place.mode (value_same c d same entry i) value
      >>= λ result. Ok (with_set t entry result)))

  case_pair_same : (s : Stated) (column row word : List ℕ) → case_pair c p s column row word ≡ case_pair d p s column row word
  unfolding case_pair
  case_pair_same s column row word = λ i.
      known_same column row i >>= λ entry. number_of word >>= λ value.
      case_sets_same s (get_or s.cases (length s.cases - 1) no_case).block entry value i

  block_line_same : (s : Stated) (fields : List (List ℕ)) → block_line c p s fields ≡ block_line d p s fields
  unfolding block_line
  block_line_same s (column ∷ row ∷ word ∷ []) = λ i. if_in_work s (case_pair_same s column row word i)
  block_line_same s (first ∷ name ∷ period ∷ probability ∷ []) = refl
  block_line_same s (column ∷ row ∷ word ∷ second ∷ other ∷ []) = λ i.
      if_in_work s (case_pair_same s column row word i >>= λ t. case_pair_same t column second other i)
  block_line_same s [] = refl
  block_line_same s (_ ∷ []) = refl
  block_line_same s (_ ∷ _ ∷ []) = refl
  block_line_same s (_ ∷ _ ∷ _ ∷ _ ∷ _ ∷ _ ∷ _) = refl

  -- ---- SCENARIOS

  branch_sets_same : (s : Stated) (entry : Entry) (value : ℚ) → branch_sets c p s entry value ≡ branch_sets d p s entry value
  branch_sets_same s entry value = λ i.
      if nat_lt (stage_of p entry) (get_or s.branches (length s.branches - 1) no_branch).stage then Err cause.EntryStage
      else (if is_some (place_of_entry s.entries entry) then Err cause.EntryTwice
      else (resulting s.place.mode (value_behind_same c d same (path_among (paths_of s.nodes) s.parent) entry i) value >>= λ result. Ok
      (with_set s entry result)))

  branch_pair_same : (s : Stated) (column row word : List ℕ) → branch_pair c p s column row word ≡ branch_pair d p s column row word
  unfolding branch_pair
  branch_pair_same s column row word = λ i.
      known_same column row i >>= λ entry. number_of word >>= λ value. branch_sets_same s entry value i

  branch_line_same : (s : Stated) (fields : List (List ℕ)) → branch_line c p s fields ≡ branch_line d p s fields
  unfolding branch_line
  branch_line_same s (column ∷ row ∷ word ∷ []) = λ i. if_in_work s (branch_pair_same s column row word i)
  branch_line_same s (first ∷ row ∷ word ∷ second ∷ other ∷ []) = λ i.
      if is_head first then branch_head p s row word second other
      else if_in_work s (branch_pair_same s first row word i >>= λ t. branch_pair_same t first second other i)
  branch_line_same s [] = refl
  branch_line_same s (_ ∷ []) = refl
  branch_line_same s (_ ∷ _ ∷ []) = refl
  branch_line_same s (_ ∷ _ ∷ _ ∷ _ ∷ []) = refl
  branch_line_same s (_ ∷ _ ∷ _ ∷ _ ∷ _ ∷ _ ∷ _) = refl

  -- ---- the file

  data_line_same : (section : StochSection) (s : Stated) (fields : List (List ℕ)) → data_line c p section s fields ≡ data_line d p section s fields
  data_line_same sections.Indep s fields = indep_line_same s fields
  data_line_same sections.Blocks s fields = block_line_same s fields
  data_line_same sections.Scenarios s fields = branch_line_same s fields
  data_line_same sections.Start s fields = refl
  data_line_same sections.Stoch s fields = refl
  data_line_same sections.End s fields = refl

  step_same : (s : Stated) (line : TextLine) → step c p s line ≡ step d p s line
  step_same s line = λ i. if line.header then header_line s line.fields else data_line_same s.place.section s line.fields i

  read_same : (end_line : ℕ) (s : Stated) (lines : List TextLine) → read_from (stoch_file c p) end_line s lines ≡ read_from (stoch_file d p) end_line s lines
  read_same end_line s [] = refl
  read_same end_line s (line ∷ lines) = λ i. on_line line.number (step_same s line i)
      (λ (t : Stated). if is_end t.place.section then at_line line.number (random_of t) else read_same end_line t lines i)

  pub stoch_same : (text : List ℕ) → read_random c p text ≡ read_random d p text
  stoch_same text = read_same (reading_of 0 text).end_line nothing_stated (reading_of 0 text).lines

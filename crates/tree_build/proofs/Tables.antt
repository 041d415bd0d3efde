-- What the tables of a stoch file keep, line by line.
use Rattle.std.proofs.Common.{◌≡◌, ◌∙◌, ap, sym, refl, subst, ℕ, suc, ◌+◌, ◌-◌, ◌<◌, ◌≤◌, Bool, true, false, not, ◌||◌, List, [], ◌∷◌, ◌++◌, length, get_or, nat_eq, nat_lt, is_some, arith, Option, Some, None, Result, Ok, Err, if◌then◌else◌}
use Rattle.std.specs.Prelude.{codes}
use Rattle.std.proofs.Math.Seq.{get_or-append_seam}
use Rattle.std.proofs.lemmas.List.{length_push, get_or_append_left}
use Rattle.std.proofs.lemmas.Bool.Decides.{nat_tests}
use Rattle.rationals.specs.Rational.{ℚ, zero_ℚ, one_ℚ, ◌<ℚ◌, at_most, at_most_false}
use Rattle.smps_words.specs.Names.{same_name, place_of, IsNumbered, if_later}
use Rattle.smps_words.specs.declared.entry.Entry.{Entry}
use Rattle.smps_words.proofs.NumberedNames.{place_of_right, numbered_snoc, none_numbered}
use Rattle.refusals.specs.declared.cause.Cause.{Cause}
use Rattle.refusals.specs.declared.cause.Cause.TheVariants as cause
use Rattle.refusals.specs.Results.{◌>>=◌, needs}
use Rattle.core_defs.specs.declared.program.Core.{Core}
use Rattle.core_defs.specs.Number.{number_of}
use Rattle.core_defs.specs.Stated.{number_in}
use Rattle.reader_defs.proofs.Taken.{bind_ok, needs_ok, else_ok, ok_is}
use Rattle.time_defs.specs.Means.{Stages}
use Rattle.stoch_defs.specs.declared.section.Mode.{Mode}
use Rattle.stoch_defs.specs.declared.section.StochSection.{StochSection}
use Rattle.stoch_defs.specs.declared.section.StochSection.TheVariants as sections
use Rattle.stoch_defs.specs.declared.heads.CaseHead.{CaseHead}
use Rattle.stoch_defs.specs.declared.heads.BranchHead.{BranchHead}
use Rattle.stoch_defs.specs.Entries.{entry_of, stage_of, is_late, core_value}
use Rattle.stoch_defs.specs.Groups.{pair_of}
use Rattle.stoch_defs.specs.Means.{set_for, sets_by}
use Rattle.stoch_defs.specs.Random.{Sets}
use Rattle.stoch_defs.specs.Section.{is_end}
use Rattle.stoch_defs.specs.Stated.{Stated, Node, nothing_stated, place_of_entry, path_among, paths_of, value_behind, no_case}
use Rattle.stoch_defs.specs.Step as steps
use Rattle.stoch_defs.specs.Step.{known_entry, resulting, probability_of, if_probability, later_period, at_least_one, if_many, closed, put_away, node_of, with_single, with_named, with_case, with_single_case, with_branch, branch_head_of, case_head_of, add_single, single_case, indep_at, indep_line, block_case, block_head, block_line, case_sets, case_pair, if_in_work, some_parent, is_root, branch_period, branch_head, branch_sets, branch_pair, is_head, branch_line, data_line, header_line, enter}
use Rattle.stoch_defs.proofs.StepParts.{known_is, header_parts}
use Rattle.stoch_laws.proofs.Work.{closed_place, closed_idle, Adds, case_adds, branch_adds}
use Rattle.scen_defs.specs.Lists.{Each}
use Rattle.build_defs.specs.Laws.{IsBelow}
use Rattle.build_defs.proofs.EachLemmas.{each_append}
use Rattle.smps_words.specs.Field.{IsField}
use Rattle.tree_build.specs.Law.{AreTimely}
use Rattle.smps_words.proofs.FieldLemmas.{AreFields}
use Rattle.tree_build.proofs.Lists.{past_end}

-- what stands for a scenario past the last one
abbrev pub no_node : Node
no_node = record { parent = None; sets = [] }

-- parents come before their children
abbrev pub AreInOrder : List Node → Type 0
AreInOrder nodes = (k : ℕ) → IsBelow k (get_or nodes k no_node).parent

abbrev pub IsTimelyNode : Stages → Node → Type 0
IsTimelyNode p node = AreTimely p node.sets

-- but for the scenario in work, each has its parent and its entries
abbrev pub AreCounted : Bool → StochSection → ℕ → ℕ → Type 0
AreCounted false section branches nodes = branches ≡ nodes
AreCounted true sections.Scenarios branches nodes = branches ≡ suc nodes
AreCounted true sections.Start branches nodes = branches ≡ nodes
AreCounted true sections.Stoch branches nodes = branches ≡ nodes
AreCounted true sections.Indep branches nodes = branches ≡ nodes
AreCounted true sections.Blocks branches nodes = branches ≡ nodes
AreCounted true sections.End branches nodes = branches ≡ nodes

abbrev pub IsLikely : CaseHead → Type 0
IsLikely head = zero_ℚ <ℚ head.probability

-- a scenario has a probability above 0 and branches behind the first stage
pub record IsLikelyBranch (head : BranchHead) : Type 0 where
  pub positive : zero_ℚ <ℚ head.probability
  pub later : 0 < head.stage

pub record Holds (p : Stages) (s : Stated) : Type 0 where
  pub cases : Each IsLikely s.cases
  pub case_sets : Each (AreTimely p) s.case_sets
  pub branches : Each IsLikelyBranch s.branches
  pub blocks : Each (λ (stage : ℕ). 0 < stage) s.blocks
  pub nodes : Each (IsTimelyNode p) s.nodes
  pub in_order : AreInOrder s.nodes
  pub sets : AreTimely p s.sets
  pub parent : IsBelow (length s.nodes) s.parent
  pub names : length s.branch_names ≡ length s.branches
  pub numbered : IsNumbered s.branch_names
  pub fields : Each IsField s.branch_names
  pub counted : AreCounted s.in_work s.place.section (length s.branches) (length s.nodes)

pub nothing_holds : (p : Stages) → Holds p nothing_stated
nothing_holds p = record { cases = tt; case_sets = tt; branches = tt; blocks = tt; nodes = tt; in_order = λ k. tt; sets = tt; parent = tt; names = refl; numbered = none_numbered; fields = tt; counted = refl }

-- ---- nothing is in work

pub below_later : (n m : ℕ) (parent : Option ℕ) → n ≤ m → IsBelow n parent → IsBelow m parent
below_later n m None h below = tt
below_later n m (Some k) h below = omega (arith, h, below)

-- one more behind those that are in order
in_order_one : (nodes : List Node) (node : Node) → AreInOrder nodes → IsBelow (length nodes) node.parent → AreInOrder (nodes ++ node ∷ [])
in_order_one nodes node all one k = go (nat_lt k (length nodes)) refl (nat_eq k (length nodes)) refl
  where
    go : (b : Bool) → nat_lt k (length nodes) ≡ b → (a : Bool) → nat_eq k (length nodes) ≡ a → IsBelow k (get_or (nodes ++ node ∷ []) k no_node).parent
    go true low a at = subst (λ (n : Node). IsBelow k n.parent) (sym (get_or_append_left nodes (node ∷ []) no_node k (grind (arith, nat_tests, low)))) (all k)
    go false high true at =
        let same : length nodes ≡ k = grind (arith, nat_tests, at) in
        subst (λ (n : Node). IsBelow k n.parent) (sym (ap (λ (i : ℕ). get_or (nodes ++ node ∷ []) i no_node) (sym same) ∙ get_or-append_seam nodes node [] no_node)) (subst (λ (i : ℕ). IsBelow i node.parent) same one)
    go false high false at =
        let past : length nodes + 1 ≤ k = grind (arith, nat_tests, high, at) in
        subst (λ (n : Node). IsBelow k n.parent) (sym (past_end (nodes ++ node ∷ []) k no_node (omega (arith, past, length_push nodes node)))) tt

closed_holds : (p : Stages) (s : Stated) → Holds p s → Holds p (closed s)
unfolding closed
closed_holds p s h = go s.in_work s.place.section h.counted
  where
    away : (section : StochSection) → length s.branches ≡ length s.nodes → Holds p (record s { case_sets = s.case_sets ++ s.sets ∷ []; in_work = false; entries = []; sets = [] })
    away section same = record {
      cases = h.cases;
      case_sets = each_append (AreTimely p) s.case_sets (s.sets ∷ []) h.case_sets (h.sets, tt);
      branches = h.branches;
      blocks = h.blocks;
      nodes = h.nodes;
      in_order = h.in_order;
      sets = tt;
      parent = h.parent;
      names = h.names;
      numbered = h.numbered;
      fields = h.fields;
      counted = same;
    }

    go : (b : Bool) (section : StochSection) → AreCounted b section (length s.branches) (length s.nodes) → Holds p (if b then put_away section s else s)
    go false section c = h
    go true sections.Scenarios c = record {
      cases = h.cases;
      case_sets = h.case_sets;
      branches = h.branches;
      blocks = h.blocks;
      nodes = each_append (IsTimelyNode p) s.nodes (node_of s.parent s.sets ∷ []) h.nodes (h.sets, tt);
      in_order = in_order_one s.nodes (node_of s.parent s.sets) h.in_order h.parent;
      sets = tt;
      parent = below_later (length s.nodes) (length (s.nodes ++ node_of s.parent s.sets ∷ [])) s.parent (omega (arith, length_push s.nodes (node_of s.parent s.sets))) h.parent;
      names = h.names;
      numbered = h.numbered;
      fields = h.fields;
      counted = omega (arith, c, length_push s.nodes (node_of s.parent s.sets));
    }
    go true sections.Blocks c = away sections.Blocks c
    go true sections.Start c = away sections.Start c
    go true sections.Stoch c = away sections.Stoch c
    go true sections.Indep c = away sections.Indep c
    go true sections.End c = away sections.End c

closed_branches : (s : Stated) → (closed s).branches ≡ s.branches
unfolding closed
closed_branches s = go s.in_work s.place.section
  where
    go : (b : Bool) (section : StochSection) → (if b then put_away section s else s).branches ≡ s.branches
    go false section = refl
    go true sections.Scenarios = refl
    go true sections.Blocks = refl
    go true sections.Start = refl
    go true sections.Stoch = refl
    go true sections.Indep = refl
    go true sections.End = refl

closed_names : (s : Stated) → (closed s).branch_names ≡ s.branch_names
unfolding closed
closed_names s = go s.in_work s.place.section
  where
    go : (b : Bool) (section : StochSection) → (if b then put_away section s else s).branch_names ≡ s.branch_names
    go false section = refl
    go true sections.Scenarios = refl
    go true sections.Blocks = refl
    go true sections.Start = refl
    go true sections.Stoch = refl
    go true sections.Indep = refl
    go true sections.End = refl

idle_count : (p : Stages) (s : Stated) → Holds p s → s.in_work ≡ false → length s.branches ≡ length s.nodes
idle_count p s h idle = subst (λ (b : Bool). AreCounted b s.place.section (length s.branches) (length s.nodes)) idle h.counted

enter_holds : (p : Stages) (s : Stated) (mode : Mode) (next : StochSection) → Holds p s → Holds p (enter s mode next)
enter_holds p s mode next h =
    let c = closed_holds p s h in
    record {
      cases = c.cases;
      case_sets = c.case_sets;
      branches = c.branches;
      blocks = c.blocks;
      nodes = c.nodes;
      in_order = c.in_order;
      sets = c.sets;
      parent = c.parent;
      names = c.names;
      numbered = c.numbered;
      fields = c.fields;
      counted = subst (λ (b : Bool). AreCounted b (enter s mode next).place.section (length (closed s).branches) (length (closed s).nodes)) (sym (closed_idle s)) (idle_count p (closed s) c (closed_idle s));
    }

-- ---- fields

chance_above : (word : List ℕ) (chance : ℚ) → probability_of word ≡ Ok chance → zero_ℚ <ℚ chance
chance_above word chance e =
    let found = bind_ok (number_of word) if_probability chance e in
    let last = else_ok (at_most found.0 zero_ℚ || not (at_most found.0 one_ℚ)) cause.ProbabilityRange (Ok found.0) chance found.2 in
    subst (λ (x : ℚ). zero_ℚ <ℚ x) (sym (ok_is found.0 chance last.1)) (at_most_false found.0 zero_ℚ (first (at_most found.0 zero_ℚ) (not (at_most found.0 one_ℚ)) last.0))
  where
    first : (a b : Bool) → (a || b) ≡ false → a ≡ false
    first true b e = cc
    first false b e = refl

entry_timely : (core : Core) (p : Stages) (column row : List ℕ) (entry : Entry) → known_entry core p column row ≡ Ok entry → is_late p entry ≡ false
unfolding known_entry
entry_timely core p column row entry e =
    let found = bind_ok (needs cause.EntryUnknown (entry_of core column row)) _ entry e in
    let last = else_ok (is_late p found.0) cause.EntryStage (Ok found.0) entry found.2 in
    ap (is_late p) (ok_is found.0 entry last.1) ∙ last.0

-- what a pair sets
pair_timely : (core : Core) (p : Stages) (base : Entry → ℚ) (mode : Mode) (column row word : List ℕ) (entry : Entry) → known_entry core p column row ≡ Ok entry → AreTimely p (sets_by core base (pair_of mode column row word ∷ []))
pair_timely core p base mode column row word entry e =
    subst (λ (o : Option Entry). AreTimely p (set_for o base mode (number_in word) ++ [])) (sym (known_is core p column row entry e)) (entry_timely core p column row entry e, tt)

-- the case or scenario in work sets more
adds_hold : (p : Stages) (s t : Stated) (more : Sets) → Holds p s → Adds s t more → AreTimely p more → Holds p t
adds_hold p s t more h adds timely = subst (Holds p) (sym adds.is) (record {
  cases = h.cases;
  case_sets = h.case_sets;
  branches = h.branches;
  blocks = h.blocks;
  nodes = h.nodes;
  in_order = h.in_order;
  sets = each_append _ s.sets more h.sets timely;
  parent = h.parent;
  names = h.names;
  numbered = h.numbered;
  fields = h.fields;
  counted = h.counted;
})

case_holds : (core : Core) (p : Stages) (s t : Stated) (column row word : List ℕ) → Holds p s → case_pair core p s column row word ≡ Ok t → Holds p t
unfolding case_pair
case_holds core p s t column row word h e =
    let block = (get_or s.cases (length s.cases - 1) no_case).block in
    let found = bind_ok (known_entry core p column row) (λ entry. number_of word >>= λ value. case_sets core p s block entry value) t e in
    adds_hold p s t (sets_by core (core_value core) (pair_of s.place.mode column row word ∷ [])) h (case_adds core p s t column row word e)
    (pair_timely core p (core_value core) s.place.mode column row word found.0 found.1)

branch_holds : (core : Core) (p : Stages) (s t : Stated) (column row word : List ℕ) → Holds p s → branch_pair core p s column row word ≡ Ok t → Holds p t
unfolding branch_pair
branch_holds core p s t column row word h e =
    let base = value_behind core (path_among (paths_of s.nodes) s.parent) in
    let found = bind_ok (known_entry core p column row) (λ entry. number_of word >>= λ value. branch_sets core p s entry value) t e in
    adds_hold p s t (sets_by core base (pair_of s.place.mode column row word ∷ [])) h (branch_adds core p s t column row word e) (pair_timely core p base s.place.mode column row word found.0 found.1)

in_work_ok : (s t : Stated) (next : Result Stated Cause) → if_in_work s next ≡ Ok t → next ≡ Ok t
in_work_ok s t next e = go s.in_work e
  where
    go : (b : Bool) → (if b then next else Err cause.SectionOrder) ≡ Ok t → next ≡ Ok t
    go true h = h
    go false h = cc

-- ---- INDEP

single_holds : (p : Stages) (s : Stated) (block : ℕ) (chance value : ℚ) (entry : Entry) → Holds p s → zero_ℚ <ℚ chance → is_late p entry ≡ false → Holds p (with_single_case s block chance entry value)
single_holds p s block chance value entry h above timely = record {
  cases = each_append IsLikely s.cases (case_head_of block chance ∷ []) h.cases (above, tt);
  case_sets = each_append (AreTimely p) s.case_sets (((entry, value) ∷ []) ∷ []) h.case_sets ((timely, tt), tt);
  branches = h.branches;
  blocks = h.blocks;
  nodes = h.nodes;
  in_order = h.in_order;
  sets = h.sets;
  parent = h.parent;
  names = h.names;
  numbered = h.numbered;
  fields = h.fields;
  counted = h.counted;
}

single_case_holds : (core : Core) (p : Stages) (s t : Stated) (entry : Entry) (value chance : ℚ) (period : ℕ) (place : Option ℕ) → Holds p s → 0 < period → zero_ℚ <ℚ chance → is_late p entry ≡ false →
    single_case core s entry value chance period place ≡ Ok t → Holds p t
single_case_holds core p s t entry value chance period None h later above timely e =
    let k = else_ok (is_some (place_of_entry s.owned entry)) cause.EntryTwice (add_single core (with_single s entry period) entry value chance (length s.blocks)) t e in
    let found = bind_ok (resulting s.place.mode (core_value core entry) value) (λ result. Ok (with_single_case (with_single s entry period) (length s.blocks) chance entry result)) t k.1 in
    let u : Stated = with_single_case (with_single s entry period) (length s.blocks) chance entry found.0 in
    let same : Holds p (with_single s entry period) = record { cases = h.cases; case_sets = h.case_sets; branches = h.branches; blocks = each_append (λ (stage : ℕ). 0 < stage) s.blocks (period ∷ []) h.blocks (later, tt); nodes = h.nodes; in_order = h.in_order; sets = h.sets; parent = h.parent; names = h.names; numbered = h.numbered; fields = h.fields; counted = h.counted } in
    subst (Holds p) (sym (ok_is u t found.2)) (single_holds p (with_single s entry period) (length s.blocks) chance found.0 entry same above timely)
single_case_holds core p s t entry value chance period (Some k) h later above timely e =
    let n = get_or s.single_blocks k 0 in
    let g = else_ok (not (nat_eq (get_or s.blocks n 0) period)) cause.EntryStage (add_single core s entry value chance n) t e in
    let found = bind_ok (resulting s.place.mode (core_value core entry) value) (λ result. Ok (with_single_case s n chance entry result)) t g.1 in
    let u : Stated = with_single_case s n chance entry found.0 in
    subst (Holds p) (sym (ok_is u t found.2)) (single_holds p s n chance found.0 entry h above timely)

some_period : (period : ℕ) (a b : Bool) → nat_eq period 0 ≡ a → (a || b) ≡ false → 0 < period
some_period period true b is e = cc
some_period period false b is e = grind (arith, nat_tests, is)

at_holds : (core : Core) (p : Stages) (s t : Stated) (entry : Entry) (value : ℚ) (period : ℕ) (word : List ℕ) → Holds p s → is_late p entry ≡ false → indep_at core p s entry value period word ≡ Ok t → Holds p t
unfolding indep_at
at_holds core p s t entry value period word h timely e =
    let place = place_of_entry s.singles entry in
    let found = bind_ok (probability_of word) (λ chance. if nat_eq period 0 || nat_lt (stage_of p entry) period then Err cause.EntryStage else single_case core s entry value chance period place) t e in
    let k = else_ok (nat_eq period 0 || nat_lt (stage_of p entry) period) cause.EntryStage (single_case core s entry value found.0 period place) t found.2 in
    single_case_holds core p s t entry value found.0 period place h (some_period period (nat_eq period 0) (nat_lt (stage_of p entry) period) refl k.0) (chance_above word found.0 found.1) timely k.1

indep_holds : (core : Core) (p : Stages) (s t : Stated) (fields : List (List ℕ)) → Holds p s → indep_line core p s fields ≡ Ok t → Holds p t
unfolding indep_line
indep_holds core p s t (column ∷ row ∷ word ∷ probability ∷ []) h e =
    let found = bind_ok (known_entry core p column row) (λ entry. number_of word >>= λ value. indep_at core p s entry value (stage_of p entry) probability) t e in
    let number = bind_ok (number_of word) (λ value. indep_at core p s found.0 value (stage_of p found.0) probability) t found.2 in
    at_holds core p s t found.0 number.0 (stage_of p found.0) probability h (entry_timely core p column row found.0 found.1) number.2
indep_holds core p s t (column ∷ row ∷ word ∷ name ∷ probability ∷ []) h e =
    let found = bind_ok (known_entry core p column row) (λ entry. number_of word >>= λ value. needs cause.EntryStage (later_period p name) >>= λ period. indep_at core p s entry value period probability) t e in
    let number = bind_ok (number_of word) (λ value. needs cause.EntryStage (later_period p name) >>= λ period. indep_at core p s found.0 value period probability) t found.2 in
    let named = bind_ok (needs cause.EntryStage (later_period p name)) (λ period. indep_at core p s found.0 number.0 period probability) t number.2 in
    at_holds core p s t found.0 number.0 named.0 probability h (entry_timely core p column row found.0 found.1) named.2
indep_holds core p s t [] h e = cc
indep_holds core p s t (_ ∷ []) h e = cc
indep_holds core p s t (_ ∷ _ ∷ []) h e = cc
indep_holds core p s t (_ ∷ _ ∷ _ ∷ []) h e = cc
indep_holds core p s t (_ ∷ _ ∷ _ ∷ _ ∷ _ ∷ _ ∷ _) h e = cc

-- ---- BLOCKS

begun : (p : Stages) (u : Stated) (block : ℕ) (chance : ℚ) → Holds p u → u.in_work ≡ false → u.place.section ≡ sections.Blocks → zero_ℚ <ℚ chance → Holds p (record (with_case u block chance) { in_work = true })
begun p u block chance h idle is above = record {
  cases = each_append IsLikely u.cases (case_head_of block chance ∷ []) h.cases (above, tt);
  case_sets = h.case_sets;
  branches = h.branches;
  blocks = h.blocks;
  nodes = h.nodes;
  in_order = h.in_order;
  sets = h.sets;
  parent = h.parent;
  names = h.names;
  numbered = h.numbered;
  fields = h.fields;
  counted = subst (λ (section : StochSection). AreCounted true section (length u.branches) (length u.nodes)) (sym is) (idle_count p u h idle);
}

block_case_holds : (p : Stages) (u t : Stated) (name : List ℕ) (period : ℕ) (chance : ℚ) (place : Option ℕ) → Holds p u → u.in_work ≡ false → u.place.section ≡ sections.Blocks → 0 < period → zero_ℚ <ℚ chance → block_case u name period chance place ≡ Ok t → Holds p t
block_case_holds p u t name period chance None h idle is later above e =
    let same : Holds p (with_named u name period) = record { cases = h.cases; case_sets = h.case_sets; branches = h.branches; blocks = each_append (λ (stage : ℕ). 0 < stage) u.blocks (period ∷ []) h.blocks (later, tt); nodes = h.nodes; in_order = h.in_order; sets = h.sets; parent = h.parent; names = h.names; numbered = h.numbered; fields = h.fields; counted = h.counted } in
    let v : Stated = record (with_case (with_named u name period) (length u.blocks) chance) { in_work = true } in
    subst (Holds p) (sym (ok_is v t e)) (begun p (with_named u name period) (length u.blocks) chance same idle is above)
block_case_holds p u t name period chance (Some k) h idle is later above e =
    let n = get_or u.block_numbers k 0 in
    let v : Stated = record (with_case u n chance) { in_work = true } in
    let g = else_ok (not (nat_eq (get_or u.blocks n 0) period)) cause.EntryStage (Ok v) t e in
    subst (Holds p) (sym (ok_is v t g.1)) (begun p u n chance h idle is above)

period_later : (o : Option ℕ) (period : ℕ) → if_later o ≡ Some period → 0 < period
period_later None period e = cc
period_later (Some k) period e = go (nat_lt 0 k) refl e
  where
    go : (b : Bool) → nat_lt 0 k ≡ b → (if b then Some k else None) ≡ Some period → 0 < period
    go true is h = let same : k ≡ period = cc in let some : 0 < k = grind (arith, nat_tests, is) in omega (arith, same, some)
    go false is h = cc

block_head_holds : (p : Stages) (s t : Stated) (first name period_word word : List ℕ) → s.place.section ≡ sections.Blocks → Holds p s → block_head p s first name period_word word ≡ Ok t → Holds p t
unfolding block_head
block_head_holds p s t first name period_word word is h e =
    let u = closed s in
    let k = else_ok (not (same_name first (codes "BL"))) cause.FieldCount (needs cause.EntryStage (later_period p period_word) >>= λ period. probability_of word >>= λ chance. block_case u name period chance (place_of u.block_names name)) t e in
    let named = bind_ok (needs cause.EntryStage (later_period p period_word)) (λ period. probability_of word >>= λ chance. block_case u name period chance (place_of u.block_names name)) t k.1 in
    let likely = bind_ok (probability_of word) (λ chance. block_case u name named.0 chance (place_of u.block_names name)) t named.2 in
    block_case_holds p u t name named.0 likely.0 (place_of u.block_names name) (closed_holds p s h) (closed_idle s) (ap (λ at. at.section) (closed_place s) ∙ is) (period_later (place_of p.names period_word) named.0 (needs_ok cause.EntryStage (later_period p period_word) named.0 named.1)) (chance_above word likely.0 likely.1) likely.2

block_holds : (core : Core) (p : Stages) (s t : Stated) (fields : List (List ℕ)) → s.place.section ≡ sections.Blocks → Holds p s → block_line core p s fields ≡ Ok t → Holds p t
unfolding block_line
block_holds core p s t (column ∷ row ∷ word ∷ []) is h e = case_holds core p s t column row word h (in_work_ok s t (case_pair core p s column row word) e)
block_holds core p s t (first ∷ name ∷ period ∷ probability ∷ []) is h e = block_head_holds p s t first name period probability is h e
block_holds core p s t (column ∷ row ∷ word ∷ second ∷ other ∷ []) is h e =
    let k = in_work_ok s t (case_pair core p s column row word >>= λ u. case_pair core p u column second other) e in
    let one = bind_ok (case_pair core p s column row word) (λ u. case_pair core p u column second other) t k in
    case_holds core p one.0 t column second other (case_holds core p s one.0 column row word h one.1) one.2
block_holds core p s t [] is h e = cc
block_holds core p s t (_ ∷ []) is h e = cc
block_holds core p s t (_ ∷ _ ∷ []) is h e = cc
block_holds core p s t (_ ∷ _ ∷ _ ∷ _ ∷ _ ∷ _ ∷ _) is h e = cc

-- ---- SCENARIOS

parent_below : (names : List (List ℕ)) (name : List ℕ) (parent : Option ℕ) (b : Bool) → (if b then Some None else some_parent (place_of names name)) ≡ Some parent → IsBelow (length names) parent
parent_below names name parent true e = let is : None ≡ parent = cc in subst (IsBelow (length names)) is tt
parent_below names name parent false e = go (place_of names name) refl e
  where
    go : (o : Option ℕ) → place_of names name ≡ o → some_parent o ≡ Some parent → IsBelow (length names) parent
    go None at h = cc
    go (Some k) at h = let is : Some k ≡ parent = cc in subst (IsBelow (length names)) is (place_of_right names name k at).0

-- a further scenario, which is in work
with_branch_holds : (p : Stages) (u : Stated) (name : List ℕ) (parent : Option ℕ) (chance : ℚ) (stage : ℕ) → Holds p u → u.in_work ≡ false → u.place.section ≡ sections.Scenarios → zero_ℚ <ℚ chance → 0 < stage →
    IsBelow (length u.branches) parent → is_some (place_of u.branch_names name) ≡ false → IsField name → Holds p (with_branch u name parent chance stage)
with_branch_holds p u name parent chance stage h idle is above later known new named =
    let head = branch_head_of chance stage in
    let more : length (u.branches ++ head ∷ []) ≡ length u.branches + 1 = length_push u.branches head in
    let same = idle_count p u h idle in
    record {
      cases = h.cases;
      case_sets = h.case_sets;
      branches = each_append IsLikelyBranch u.branches (head ∷ []) h.branches (record { positive = above; later = later }, tt);
      blocks = h.blocks;
      nodes = h.nodes;
      in_order = h.in_order;
      sets = h.sets;
      parent = subst (λ (n : ℕ). IsBelow n parent) same known;
      names = omega (arith, more, length_push u.branch_names name, h.names);
      numbered = numbered_snoc u.branch_names name h.numbered new;
      fields = each_append IsField u.branch_names (name ∷ []) h.fields (named, tt);
      counted = subst (λ (section : StochSection). AreCounted true section (length (u.branches ++ head ∷ [])) (length u.nodes)) (sym is) (omega (arith, more, same));
    }

stage_later : (b : Bool) (o : Option ℕ) (period : ℕ) → if_many b o ≡ Some period → 0 < period
stage_later true None period e = cc
stage_later true (Some k) period e = let same : at_least_one k ≡ period = cc in subst (λ (n : ℕ). 0 < n) same (go (nat_eq k 0) refl)
  where
    go : (b : Bool) → nat_eq k 0 ≡ b → 0 < (if b then 1 else k)
    go true is = omega arith
    go false is = grind (arith, nat_tests, is)
stage_later false o period e = cc

branch_head_holds : (p : Stages) (s t : Stated) (name parent_word word period_word : List ℕ) → s.place.section ≡ sections.Scenarios → IsField name → Holds p s → branch_head p s name parent_word word period_word ≡ Ok t → Holds p t
unfolding branch_head
branch_head_holds p s t name parent_word word period_word is named h e =
    let u = closed s in
    let k = else_ok (is_some (place_of s.branch_names name)) cause.ScenarioTwice (needs cause.ParentUnknown (steps.parent_of s parent_word) >>= λ parent. probability_of word >>= λ chance. needs cause.BranchPeriod (branch_period p period_word) >>= λ period. Ok (with_branch u name parent chance period)) t e in
    let above = bind_ok (needs cause.ParentUnknown (steps.parent_of s parent_word)) (λ parent. probability_of word >>= λ chance. needs cause.BranchPeriod (branch_period p period_word) >>= λ period. Ok (with_branch u name parent chance period)) t k.1 in
    let likely = bind_ok (probability_of word) (λ chance. needs cause.BranchPeriod (branch_period p period_word) >>= λ period. Ok (with_branch u name above.0 chance period)) t above.2 in
    let staged = bind_ok (needs cause.BranchPeriod (branch_period p period_word)) (λ period. Ok (with_branch u name above.0 likely.0 period)) t likely.2 in
    let parent : IsBelow (length s.branch_names) above.0 = parent_below s.branch_names parent_word above.0 (is_root parent_word) (needs_ok cause.ParentUnknown (steps.parent_of s parent_word) above.0 above.1) in
    let same : length s.branch_names ≡ length u.branches = h.names ∙ sym (ap length (closed_branches s)) in
    subst (Holds p) (sym (ok_is (with_branch u name above.0 likely.0 staged.0) t staged.2))
    (with_branch_holds p u name above.0 likely.0 staged.0 (closed_holds p s h) (closed_idle s) (ap (λ at. at.section) (closed_place s) ∙ is) (chance_above word likely.0 likely.1)
    (stage_later (nat_lt 1 (length p.names)) (place_of p.names period_word) staged.0 (needs_ok cause.BranchPeriod (branch_period p period_word) staged.0 staged.1))
    (subst (λ (n : ℕ). IsBelow n above.0) same parent) (ap (λ (names : List (List ℕ)). is_some (place_of names name)) (closed_names s) ∙ k.0) named)

scenario_holds : (core : Core) (p : Stages) (s t : Stated) (fields : List (List ℕ)) → s.place.section ≡ sections.Scenarios → AreFields 6 fields → Holds p s → branch_line core p s fields ≡ Ok t → Holds p t
unfolding branch_line
scenario_holds core p s t (column ∷ row ∷ word ∷ []) is named h e = branch_holds core p s t column row word h (in_work_ok s t (branch_pair core p s column row word) e)
scenario_holds core p s t (first ∷ row ∷ word ∷ second ∷ other ∷ []) is named h e = go (is_head first) e
  where
    go : (b : Bool) → (if b then branch_head p s row word second other else if_in_work s (branch_pair core p s first row word >>= λ u. branch_pair core p u first second other)) ≡ Ok t → Holds p t
    go true k = branch_head_holds p s t row word second other is named.1.0 h k
    go false k =
        let two = in_work_ok s t (branch_pair core p s first row word >>= λ u. branch_pair core p u first second other) k in
        let one = bind_ok (branch_pair core p s first row word) (λ u. branch_pair core p u first second other) t two in
        branch_holds core p one.0 t first second other (branch_holds core p s one.0 first row word h one.1) one.2
scenario_holds core p s t [] is named h e = cc
scenario_holds core p s t (_ ∷ []) is named h e = cc
scenario_holds core p s t (_ ∷ _ ∷ []) is named h e = cc
scenario_holds core p s t (_ ∷ _ ∷ _ ∷ _ ∷ []) is named h e = cc
scenario_holds core p s t (_ ∷ _ ∷ _ ∷ _ ∷ _ ∷ _ ∷ _) is named h e = cc

-- ---- any line

data_holds : (core : Core) (p : Stages) (s t : Stated) (fields : List (List ℕ)) (section : StochSection) → s.place.section ≡ section → AreFields 6 fields → Holds p s → data_line core p section s fields ≡ Ok t → Holds p t
data_holds core p s t fields sections.Indep is named h e = indep_holds core p s t fields h e
data_holds core p s t fields sections.Blocks is named h e = block_holds core p s t fields is h e
data_holds core p s t fields sections.Scenarios is named h e = scenario_holds core p s t fields is named h e
data_holds core p s t fields sections.Start is named h e = cc
data_holds core p s t fields sections.Stoch is named h e = cc
data_holds core p s t fields sections.End is named h e = cc

pub line_holds : (core : Core) (p : Stages) (s t : Stated) (header : Bool) (fields : List (List ℕ)) → is_end s.place.section ≡ false → AreFields 6 fields → Holds p s →
    (if header then header_line s fields else data_line core p s.place.section s fields) ≡ Ok t → Holds p t
line_holds core p s t true fields open_ named h e = let k = header_parts s t fields open_ e in subst (Holds p) (sym k.is) (enter_holds p s k.mode k.next h)
line_holds core p s t false fields open_ named h e = data_holds core p s t fields s.place.section refl named h e

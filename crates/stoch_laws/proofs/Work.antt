-- The case or the scenario in work, and what a data line adds.
use Rattle.std.proofs.Common.{◌≡◌, ◌∙◌, ap, ℕ, ◌-◌, Bool, true, false, List, [], ◌∷◌, ◌++◌, Option, Some, None, Ok, Err, is_some, map, length, get_or, nat_eq, nat_lt, refl, sym, subst, append_assoc, if◌then◌else◌}
use Rattle.std.proofs.lemmas.Grind.{flat_map-append}
use Rattle.std.proofs.lemmas.List.{map-append}
use Rattle.rationals.specs.Rational.{ℚ}
use Rattle.smps_words.specs.declared.entry.Entry.{Entry}
use Rattle.refusals.specs.declared.cause.Cause.TheVariants as cause
use Rattle.refusals.specs.Results.{◌>>=◌}
use Rattle.core_defs.specs.declared.program.Core.{Core}
use Rattle.core_defs.specs.Number.{number_of}
use Rattle.core_defs.specs.Stated.{number_in}
use Rattle.reader_defs.proofs.Taken.{bind_ok, needs_ok, else_ok, ok_is}
use Rattle.time_defs.specs.Means.{Stages}
use Rattle.stoch_defs.specs.declared.section.Mode.{Mode}
use Rattle.stoch_defs.specs.declared.section.StochSection.{StochSection}
use Rattle.stoch_defs.specs.declared.section.StochSection.TheVariants as sections
use Rattle.stoch_defs.specs.Entries.{entry_of, stage_of, core_value}
use Rattle.stoch_defs.specs.Groups.{Group, Pair, pair_of}
use Rattle.stoch_defs.specs.Means.{result_of, set_for, sets_by, sets_of_case, name_of, path_of, parent_of, path_above, sets_of_scenario, scenario_of, scenarios_from, scenarios_of, Scenario}
use Rattle.stoch_defs.specs.Random.{Sets}
use Rattle.stoch_defs.specs.Stated.{Stated, place_of_entry, path_among, paths_of, value_behind, no_case, no_branch}
use Rattle.stoch_defs.specs.Step.{known_entry, resulting, with_owner, with_set, put_away, closed, owned_at, owned_by, case_sets, case_pair, branch_sets, branch_pair, node_of}
use Rattle.stoch_defs.proofs.PathLemmas.{paths_snoc}
use Rattle.stoch_defs.proofs.StepParts.{known_is, number_is, result_is}
use Rattle.stoch_laws.proofs.Tables.{mapped}
use Rattle.stoch_laws.proofs.Cases.{Cases}
use Rattle.stoch_laws.proofs.Sums.{scenario_head, scenario_node, Ready}

-- ---- what is in work

abbrev pub AllCases : Core → List Group → Stated → Type 0
AllCases core cs s = s.case_sets ≡ map (sets_of_case core) cs

abbrev pub AllNodes : Core → Stages → List Group → Stated → Type 0
AllNodes core p scs s = s.nodes ≡ map scenario_node (scenarios_of core p scs)

-- the last group is a case in work
pub record InCase (core : Core) (cs : List Group) (s : Stated) : Type 0 where
  pub before : List Group
  pub g : Group
  pub is : cs ≡ before ++ g ∷ []
  pub section : g.head.at.section ≡ sections.Blocks
  pub done : s.case_sets ≡ map (sets_of_case core) before
  pub sets : s.sets ≡ sets_of_case core g

-- the last group is a scenario in work
pub record InScenario (core : Core) (p : Stages) (scs : List Group) (s : Stated) : Type 0 where
  pub before : List Group
  pub g : Group
  pub is : scs ≡ before ++ g ∷ []
  pub section : g.head.at.section ≡ sections.Scenarios
  pub done : s.nodes ≡ map scenario_node (scenarios_of core p before)
  pub parent : s.parent ≡ parent_of (scenarios_of core p before) g
  pub sets : s.sets ≡ sets_of_scenario core (scenarios_of core p before) g

abbrev pub Work : Core → Stages → List Group → List Group → Stated → Bool → StochSection → Type 0
Work core p cs scs s false section = AllCases core cs s × AllNodes core p scs s × (s.sets ≡ [])
Work core p cs scs s true sections.Blocks = InCase core cs s × AllNodes core p scs s
Work core p cs scs s true sections.Scenarios = AllCases core cs s × InScenario core p scs s
Work core p cs scs s true sections.Start = ⊥
Work core p cs scs s true sections.Stoch = ⊥
Work core p cs scs s true sections.Indep = ⊥
Work core p cs scs s true sections.End = ⊥

-- the tables say what the groups say
pub record Tie (core : Core) (p : Stages) (cs scs : List Group) (s : Stated) : Type 0 where
  pub cases : Cases core p cs s.blocks s.singles s.single_blocks s.block_names s.block_numbers s.cases
  pub names : s.branch_names ≡ map name_of (scenarios_of core p scs)
  pub heads : s.branches ≡ map scenario_head (scenarios_of core p scs)
  pub work : Work core p cs scs s s.in_work s.place.section

-- ---- scenarios, one more

pub scenarios_snoc : (core : Core) (p : Stages) (known : List Scenario) (groups : List Group) (g : Group) → scenarios_from core p known (groups ++ g ∷ []) ≡ scenarios_from core p known groups ++ scenario_of core p (scenarios_from core p known groups) g ∷ []
scenarios_snoc core p known [] g = refl
scenarios_snoc core p known (first ∷ groups) g = scenarios_snoc core p (known ++ scenario_of core p known first ∷ []) groups g

paths_from_known : (core : Core) (p : Stages) (known : List Scenario) (groups : List Group) → paths_of (map scenario_node known) ≡ map path_of known → paths_of (map scenario_node (scenarios_from core p known groups)) ≡ map path_of (scenarios_from core p known groups)
paths_from_known core p known [] e = e
paths_from_known core p known (g ∷ groups) e =
    let k = scenario_of core p known g in
    paths_from_known core p (known ++ k ∷ []) groups
    (ap paths_of (map-append scenario_node known (k ∷ [])) ∙ paths_snoc [] (map scenario_node known) (scenario_node k)
    ∙ ap (λ (paths : List Sets). paths ++ (k.branch.sets ++ path_among paths k.branch.parent) ∷ []) e
    ∙ sym (map-append path_of known (k ∷ [])))

-- what is set on the paths of scenarios
paths_are : (core : Core) (p : Stages) (groups : List Group) → paths_of (map scenario_node (scenarios_of core p groups)) ≡ map path_of (scenarios_of core p groups)
paths_are core p groups = paths_from_known core p [] groups refl

-- ---- nothing is in work

pub ready : (core : Core) (p : Stages) (cs scs : List Group) (s : Stated) → Tie core p cs scs s → Ready core p cs scs (closed s)
unfolding closed
ready core p cs scs s t = go s.in_work s.place.section t.work
  where
    go : (b : Bool) (section : StochSection) → Work core p cs scs s b section → Ready core p cs scs (if b then put_away section s else s)
    go false section w = record { cases = t.cases; sets = w.0; names = t.names; heads = t.heads; nodes = w.1; quiet = w.2 }
    go true sections.Blocks w = record {
      cases = t.cases;
      sets = mapped (sets_of_case core) s.case_sets w.0.before s.sets w.0.g w.0.done w.0.sets ∙ ap (map (sets_of_case core)) (sym w.0.is);
      names = t.names;
      heads = t.heads;
      nodes = w.1;
      quiet = refl;
    }
    go true sections.Scenarios w =
        let h = w.1 in
        let ks = scenarios_of core p h.before in
        record {
          cases = t.cases;
          sets = w.0;
          names = t.names;
          heads = t.heads;
          nodes = mapped scenario_node s.nodes ks (node_of s.parent s.sets) (scenario_of core p ks h.g) h.done (ap (λ parent. node_of parent s.sets) h.parent ∙ ap (node_of (parent_of ks h.g)) h.sets)
              ∙ ap (map scenario_node) (sym (scenarios_snoc core p [] h.before h.g) ∙ ap (scenarios_of core p) (sym h.is));
          quiet = refl;
        }
    go true sections.Start w = absurd w
    go true sections.Stoch w = absurd w
    go true sections.Indep w = absurd w
    go true sections.End w = absurd w

pub closed_place : (s : Stated) → (closed s).place ≡ s.place
unfolding closed
closed_place s = go s.in_work s.place.section
  where
    go : (b : Bool) (section : StochSection) → (if b then put_away section s else s).place ≡ s.place
    go false section = refl
    go true sections.Blocks = refl
    go true sections.Scenarios = refl
    go true sections.Start = refl
    go true sections.Stoch = refl
    go true sections.Indep = refl
    go true sections.End = refl

pub closed_idle : (s : Stated) → (closed s).in_work ≡ false
unfolding closed
closed_idle s = go s.in_work s.place.section refl
  where
    go : (b : Bool) (section : StochSection) → s.in_work ≡ b → (if b then put_away section s else s).in_work ≡ false
    go false section e = e
    go true sections.Blocks e = refl
    go true sections.Scenarios e = refl
    go true sections.Start e = refl
    go true sections.Stoch e = refl
    go true sections.Indep e = refl
    go true sections.End e = refl

pub tied : (core : Core) (p : Stages) (cs scs : List Group) (s : Stated) → Ready core p cs scs s → s.in_work ≡ false → Tie core p cs scs s
tied core p cs scs s r idle = record {
  cases = r.cases;
  names = r.names;
  heads = r.heads;
  work = subst (λ b. Work core p cs scs s b s.place.section) (sym idle) (r.sets, r.nodes, r.quiet);
}

-- ---- pairs

abbrev pub touched : Stated → List Entry → List ℕ → List Entry → Sets → Stated
touched s os ns es sets = record s { owned = os; owners = ns; entries = es; sets = sets }

-- the case or scenario in work sets more
pub record Adds (s t : Stated) (more : Sets) : Type 0 where
  pub owned : List Entry
  pub owners : List ℕ
  pub entries : List Entry
  pub is : t ≡ touched s owned owners entries (s.sets ++ more)

adds_twice : (s t u : Stated) (a b : Sets) → Adds s t a → Adds t u b → Adds s u (a ++ b)
adds_twice s t u a b h k = record {
  owned = k.owned;
  owners = k.owners;
  entries = k.entries;
  is = k.is ∙ ap (λ (x : Stated). touched x k.owned k.owners k.entries (x.sets ++ b)) h.is ∙ ap (touched s k.owned k.owners k.entries) (append_assoc s.sets a b);
}

abbrev pub one_set : Entry → ℚ → Sets
one_set entry value = (entry, value) ∷ []

pub set_is : (core : Core) (base : Entry → ℚ) (mode : Mode) (column row word : List ℕ) (entry : Entry) (value result : ℚ) → entry_of core column row ≡ Some entry → value ≡ number_in word → resulting mode (base entry) value ≡ Ok result →
    one_set entry result ≡ sets_by core base (pair_of mode column row word ∷ [])
set_is core base mode column row word entry value result known valued e =
    ap (one_set entry) (result_is mode (base entry) value result e ∙ ap (result_of mode (base entry)) valued)
    ∙ sym (ap (λ (found : Option Entry). set_for found base mode (number_in word) ++ []) known)

owner_adds : (s u : Stated) (entry : Entry) (block : ℕ) → owned_by s entry block ≡ Ok u → (os : List Entry) × (ns : List ℕ) × (u ≡ record s { owned = os; owners = ns })
owner_adds s u entry block e =
    let h = else_ok (is_some (place_of_entry s.singles entry)) cause.EntryTwice (owned_at s entry block (place_of_entry s.owned entry)) u e in
    go (place_of_entry s.owned entry) h.1
  where
    go : (o : Option ℕ) → owned_at s entry block o ≡ Ok u → (os : List Entry) × (ns : List ℕ) × (u ≡ record s { owned = os; owners = ns })
    go None e = (s.owned ++ entry ∷ [], s.owners ++ block ∷ [], ok_is (with_owner s entry block) u e)
    go (Some place) e = (s.owned, s.owners, ok_is s u (own (nat_eq (get_or s.owners place 0) block) e))
      where
        own : (b : Bool) → (if b then Ok s else Err cause.EntryTwice) ≡ Ok u → Rattle.reader_defs.proofs.Taken.fine s ≡ Ok u
        own true h = h
        own false h = cc

pub case_adds : (core : Core) (p : Stages) (s t : Stated) (column row word : List ℕ) → case_pair core p s column row word ≡ Ok t → Adds s t (sets_by core (core_value core) (pair_of s.place.mode column row word ∷ []))
unfolding case_pair
case_adds core p s t column row word e =
    let block = (get_or s.cases (length s.cases - 1) no_case).block in
    let found = bind_ok (known_entry core p column row) (λ entry. number_of word >>= λ value. case_sets core p s block entry value) t e in
    let entry = found.0 in
    let number = bind_ok (number_of word) (λ value. case_sets core p s block entry value) t found.2 in
    let value = number.0 in
    let staged = else_ok (nat_lt (stage_of p entry) (get_or s.blocks block 0)) cause.EntryStage
    (if is_some (place_of_entry s.entries entry) then Err cause.EntryTwice
    else (owned_by s entry block >>= λ u. resulting u.place.mode (core_value core entry) value >>= λ result. Ok (with_set u entry result))) t number.2 in
    let once = else_ok (is_some (place_of_entry s.entries entry)) cause.EntryTwice
    (owned_by s entry block >>= λ u. resulting u.place.mode (core_value core entry) value >>= λ result. Ok (with_set u entry result)) t staged.1 in
    let own = bind_ok (owned_by s entry block) (λ u. resulting u.place.mode (core_value core entry) value >>= λ result. Ok (with_set u entry result)) t once.1 in
    let u = own.0 in
    let result = bind_ok (resulting u.place.mode (core_value core entry) value) (λ result. Ok (with_set u entry result)) t own.2 in
    let parts = owner_adds s u entry block own.1 in
    let mode = ap (λ (x : Stated). x.place.mode) parts.2 in
    record {
      owned = parts.0;
      owners = parts.1;
      entries = s.entries ++ entry ∷ [];
      is = ok_is (with_set u entry result.0) t result.2 ∙ ap (λ (x : Stated). with_set x entry result.0) parts.2
          ∙ ap (λ (more : Sets). touched s parts.0 parts.1 (s.entries ++ entry ∷ []) (s.sets ++ more))
          (set_is core (core_value core) s.place.mode column row word entry value result.0 (known_is core p column row entry found.1) (number_is word value number.1) (sym (ap (λ m. resulting m (core_value core entry) value) mode) ∙ result.1));
    }

pub branch_adds : (core : Core) (p : Stages) (s t : Stated) (column row word : List ℕ) → branch_pair core p s column row word ≡ Ok t →
    Adds s t (sets_by core (value_behind core (path_among (paths_of s.nodes) s.parent)) (pair_of s.place.mode column row word ∷ []))
unfolding branch_pair
branch_adds core p s t column row word e =
    let base = value_behind core (path_among (paths_of s.nodes) s.parent) in
    let found = bind_ok (known_entry core p column row) (λ entry. number_of word >>= λ value. branch_sets core p s entry value) t e in
    let entry = found.0 in
    let number = bind_ok (number_of word) (λ value. branch_sets core p s entry value) t found.2 in
    let value = number.0 in
    let staged = else_ok (nat_lt (stage_of p entry) (get_or s.branches (length s.branches - 1) no_branch).stage) cause.EntryStage
    (if is_some (place_of_entry s.entries entry) then Err cause.EntryTwice else (resulting s.place.mode (base entry) value >>= λ result. Ok (with_set s entry result))) t number.2 in
    let once = else_ok (is_some (place_of_entry s.entries entry)) cause.EntryTwice (resulting s.place.mode (base entry) value >>= λ result. Ok (with_set s entry result)) t staged.1 in
    let result = bind_ok (resulting s.place.mode (base entry) value) (λ result. Ok (with_set s entry result)) t once.1 in
    record {
      owned = s.owned;
      owners = s.owners;
      entries = s.entries ++ entry ∷ [];
      is = ok_is (with_set s entry result.0) t result.2
          ∙ ap (λ (more : Sets). touched s s.owned s.owners (s.entries ++ entry ∷ []) (s.sets ++ more))
          (set_is core base s.place.mode column row word entry value result.0 (known_is core p column row entry found.1) (number_is word value number.1) result.1);
    }

abbrev sets_of_pair : Core → (Entry → ℚ) → Pair → Sets
sets_of_pair core base pair = set_for (entry_of core pair.column pair.row) base pair.mode (number_in pair.word)

pub sets_append : (core : Core) (base : Entry → ℚ) (a b : List Pair) → sets_by core base a ++ sets_by core base b ≡ sets_by core base (a ++ b)
sets_append core base a b = sym (flat_map-append (sets_of_pair core base) a b)

pub case_adds_twice : (core : Core) (p : Stages) (s t : Stated) (column row word second other : List ℕ) → (case_pair core p s column row word >>= λ u. case_pair core p u column second other) ≡ Ok t →
    Adds s t (sets_by core (core_value core) (pair_of s.place.mode column row word ∷ pair_of s.place.mode column second other ∷ []))
case_adds_twice core p s t column row word second other e =
    let h = bind_ok (case_pair core p s column row word) (λ u. case_pair core p u column second other) t e in
    let one = case_adds core p s h.0 column row word h.1 in
    let two = case_adds core p h.0 t column second other h.2 in
    let a = sets_by core (core_value core) (pair_of s.place.mode column row word ∷ []) in
    subst (Adds s t) (ap (λ (x : Stated). a ++ sets_by core (core_value core) (pair_of x.place.mode column second other ∷ [])) one.is
    ∙ sets_append core (core_value core) (pair_of s.place.mode column row word ∷ []) (pair_of s.place.mode column second other ∷ []))
    (adds_twice s h.0 t a (sets_by core (core_value core) (pair_of h.0.place.mode column second other ∷ [])) one two)

pub branch_adds_twice : (core : Core) (p : Stages) (s t : Stated) (column row word second other : List ℕ) → (branch_pair core p s column row word >>= λ u. branch_pair core p u column second other) ≡ Ok t →
    Adds s t (sets_by core (value_behind core (path_among (paths_of s.nodes) s.parent)) (pair_of s.place.mode column row word ∷ pair_of s.place.mode column second other ∷ []))
branch_adds_twice core p s t column row word second other e =
    let h = bind_ok (branch_pair core p s column row word) (λ u. branch_pair core p u column second other) t e in
    let one = branch_adds core p s h.0 column row word h.1 in
    let two = branch_adds core p h.0 t column second other h.2 in
    let base = value_behind core (path_among (paths_of s.nodes) s.parent) in
    let a = sets_by core base (pair_of s.place.mode column row word ∷ []) in
    subst (Adds s t) (ap (λ (x : Stated). a ++ sets_by core (value_behind core (path_among (paths_of x.nodes) x.parent)) (pair_of x.place.mode column second other ∷ [])) one.is
    ∙ sets_append core base (pair_of s.place.mode column row word ∷ []) (pair_of s.place.mode column second other ∷ []))
    (adds_twice s h.0 t a (sets_by core (value_behind core (path_among (paths_of h.0.nodes) h.0.parent)) (pair_of h.0.place.mode column second other ∷ [])) one two)

pub path_is : (core : Core) (p : Stages) (scs : List Group) (s : Stated) (h : InScenario core p scs s) → path_among (paths_of s.nodes) s.parent ≡ path_above (scenarios_of core p h.before) h.g
path_is core p scs s h =
    ap (λ (parent : Option ℕ). path_among (paths_of s.nodes) parent) h.parent
    ∙ ap (λ (paths : List Sets). path_among paths (parent_of (scenarios_of core p h.before) h.g)) (ap paths_of h.done ∙ paths_are core p h.before)

-- The upkeep of the tables by each kind of data line.
use Rattle.std.proofs.Common.{◌≡◌, ◌∙◌, ap, ℕ, Bool, true, false, ◌||◌, List, [], ◌∷◌, ◌++◌, Option, Some, None, Result, Ok, Err, is_some, map, length, get_or, nat_eq, nat_lt, not, refl, sym, subst, if◌then◌else◌}
use Rattle.std.specs.Prelude.{codes, unwrap_or}
use Rattle.std.proofs.lemmas.List.{map-append}
use Rattle.rationals.specs.Rational.{ℚ}
use Rattle.smps_words.specs.Names.{same_name, place_of, if_later}
use Rattle.smps_words.specs.declared.entry.Entry.{Entry}
use Rattle.refusals.specs.declared.cause.Cause.{Cause}
use Rattle.refusals.specs.declared.cause.Cause.TheVariants as cause
use Rattle.refusals.specs.Results.{◌>>=◌, needs}
use Rattle.core_defs.specs.declared.program.Core.{Core}
use Rattle.core_defs.specs.Number.{number_of}
use Rattle.core_defs.specs.Stated.{number_in}
use Rattle.reader_defs.specs.Placed.{Placed}
use Rattle.reader_defs.proofs.PlacedLemmas.{flat_snoc}
use Rattle.reader_defs.proofs.Taken.{bind_ok, needs_ok, else_ok, ok_is}
use Rattle.time_defs.specs.Means.{Stages}
use Rattle.stoch_defs.specs.declared.section.StochSection.{StochSection}
use Rattle.stoch_defs.specs.declared.section.StochSection.TheVariants as sections
use Rattle.stoch_defs.specs.Entries.{stage_of, core_value}
use Rattle.stoch_defs.specs.Groups.{Group, begins, to_last, with_line, pairs_on, pairs_at, pairs_in}
use Rattle.stoch_defs.specs.Means.{sets_by, sets_of_case, name_of, parent_of, parent_named, path_above, scenario_of, scenarios_of, Scenario, owner_of, owner_at, period_of, period_at, period_named, entry_stage, stated_probability, number_from}
use Rattle.stoch_defs.specs.Means.Owner.{OfEntry, OfName}
use Rattle.stoch_defs.specs.Random.{Sets}
use Rattle.stoch_defs.specs.Section.{Place}
use Rattle.stoch_defs.specs.Stated.{Stated, place_of_entry, entry_from, value_behind, path_among, paths_of}
use Rattle.stoch_defs.specs.Step as steps
use Rattle.stoch_defs.specs.Step.{known_entry, resulting, probability_of, later_period, closed, with_single, with_named, with_case, with_single_case, with_branch, branch_head_of, case_head_of, add_single, single_case, indep_at, indep_line, block_case, block_head, block_line, case_pair, if_in_work, some_parent, is_root, at_least_one, if_many, branch_period, branch_head, branch_pair, is_head, branch_line}
use Rattle.stoch_defs.proofs.StepParts.{known_is, number_is, probability_is}
use Rattle.stoch_laws.proofs.Tables.{seen, mapped}
use Rattle.stoch_laws.proofs.Cases.{Cases, owners, same_tables, old_case, new_single, new_named}
use Rattle.stoch_laws.proofs.Sums.{scenario_head, Ready}
use Rattle.stoch_laws.proofs.Work.{AllCases, AllNodes, InCase, InScenario, Work, Tie, scenarios_snoc, ready, closed_place, tied, touched, Adds, one_set, set_is, case_adds, branch_adds, sets_append, case_adds_twice, branch_adds_twice, path_is}

-- behind a line: the tables say what these groups say, and the place is that before the line
pub record After (core : Core) (p : Stages) (cs scs : List Group) (s t : Stated) : Type 0 where
  pub tie : Tie core p cs scs t
  pub place : t.place ≡ s.place

abbrev pub line_at : Place → List (List ℕ) → Placed Place
line_at at fields = record { at = at; fields = fields }

abbrev pub fresh : Place → List (List ℕ) → Group
fresh at fields = record { head = line_at at fields; tail = [] }

abbrev pub more_on : Group → Placed Place → Group
more_on g line = record g { tail = g.tail ++ line ∷ [] }

there : {A : Type 0} (o : Option A) (x d : A) → o ≡ Some x → x ≡ unwrap_or o d
there None x d e = cc
there (Some y) x d e = cc

abbrev grouped_if : List Group → Placed Place → Bool → List Group
grouped_if groups line b = if b then groups ++ record { head = line; tail = [] } ∷ [] else to_last groups line

to_last_is : (before : List Group) (g : Group) (line : Placed Place) → to_last (before ++ g ∷ []) line ≡ before ++ more_on g line ∷ []
to_last_is [] g line = refl
to_last_is (b ∷ []) g line = refl
to_last_is (b ∷ c ∷ before) g line = ap (λ (l : List Group). b ∷ l) (to_last_is (c ∷ before) g line)

-- ---- INDEP

idle_in : (core : Core) (p : Stages) (cs scs : List Group) (s : Stated) (b : Bool) → Work core p cs scs s b sections.Indep → (b ≡ false) × AllCases core cs s × AllNodes core p scs s × (s.sets ≡ [])
idle_in core p cs scs s false w = (refl, w.0, w.1, w.2)
idle_in core p cs scs s true w = absurd w

single_after : (core : Core) (p : Stages) (cs scs : List Group) (s t : Stated) (g : Group) (entry : Entry) (value chance : ℚ) (period : ℕ) (place : Option ℕ) →
    Ready core p cs scs s → s.in_work ≡ false → entry_from 0 s.singles entry ≡ place → owner_of core g ≡ OfEntry (Some entry) → period ≡ period_of core p g → chance ≡ stated_probability g →
    ((result : ℚ) → resulting s.place.mode (core_value core entry) value ≡ Ok result → one_set entry result ≡ sets_of_case core g) → single_case core s entry value chance period place ≡ Ok t → After core p (cs ++ g ∷ []) scs s t
single_after core p cs scs s t g entry value chance period None r idle at owner staged likely sets e =
    let h = else_ok (is_some (place_of_entry s.owned entry)) cause.EntryTwice (add_single core (with_single s entry period) entry value chance (length s.blocks)) t e in
    let found = bind_ok (resulting s.place.mode (core_value core entry) value) (λ result. Ok (with_single_case (with_single s entry period) (length s.blocks) chance entry result)) t h.1 in
    let u : Stated = with_single_case (with_single s entry period) (length s.blocks) chance entry found.0 in
    let c = r.cases in
    let more : Ready core p (cs ++ g ∷ []) scs u = record {
      cases = new_single core p cs g s.blocks s.singles s.single_blocks s.block_names s.block_numbers s.cases entry period chance owner at staged likely c;
      sets = mapped (sets_of_case core) s.case_sets cs (one_set entry found.0) g r.sets (sets found.0 found.1);
      names = r.names;
      heads = r.heads;
      nodes = r.nodes;
      quiet = r.quiet;
    } in
    subst (After core p (cs ++ g ∷ []) scs s) (sym (ok_is u t found.2)) (record { tie = tied core p (cs ++ g ∷ []) scs u more idle; place = refl })
single_after core p cs scs s t g entry value chance period (Some k) r idle at owner staged likely sets e =
    let n = get_or s.single_blocks k 0 in
    let h = else_ok (not (nat_eq (get_or s.blocks n 0) period)) cause.EntryStage (add_single core s entry value chance n) t e in
    let found = bind_ok (resulting s.place.mode (core_value core entry) value) (λ result. Ok (with_single_case s n chance entry result)) t h.1 in
    let u : Stated = with_single_case s n chance entry found.0 in
    let c = r.cases in
    let known : number_from 0 (owners core cs) (owner_of core g) ≡ Some n =
    ap (number_from 0 (owners core cs)) owner ∙ c.of_entry entry ∙ ap (seen s.single_blocks) at in
    let more : Ready core p (cs ++ g ∷ []) scs u = record {
      cases = old_case core p cs g s.blocks s.singles s.single_blocks s.block_names s.block_numbers s.cases n chance known likely c;
      sets = mapped (sets_of_case core) s.case_sets cs (one_set entry found.0) g r.sets (sets found.0 found.1);
      names = r.names;
      heads = r.heads;
      nodes = r.nodes;
      quiet = r.quiet;
    } in
    subst (After core p (cs ++ g ∷ []) scs s) (sym (ok_is u t found.2)) (record { tie = tied core p (cs ++ g ∷ []) scs u more idle; place = refl })

at_after : (core : Core) (p : Stages) (cs scs : List Group) (s t : Stated) (g : Group) (entry : Entry) (value : ℚ) (period : ℕ) (word : List ℕ) →
    Ready core p cs scs s → s.in_work ≡ false → owner_of core g ≡ OfEntry (Some entry) → period ≡ period_of core p g → number_in word ≡ stated_probability g →
    ((result : ℚ) → resulting s.place.mode (core_value core entry) value ≡ Ok result → one_set entry result ≡ sets_of_case core g) → indep_at core p s entry value period word ≡ Ok t → After core p (cs ++ g ∷ []) scs s t
unfolding indep_at
at_after core p cs scs s t g entry value period word r idle owner staged likely sets e =
    let place = place_of_entry s.singles entry in
    let found = bind_ok (probability_of word) (λ chance. if nat_eq period 0 || nat_lt (stage_of p entry) period then Err cause.EntryStage else single_case core s entry value chance period place) t e in
    let h = else_ok (nat_eq period 0 || nat_lt (stage_of p entry) period) cause.EntryStage (single_case core s entry value found.0 period place) t found.2 in
    single_after core p cs scs s t g entry value found.0 period place r idle refl owner staged (probability_is word found.0 found.1 ∙ likely) sets h.1

later_is : (o : Option ℕ) (period : ℕ) → if_later o ≡ Some period → o ≡ Some period
later_is None period e = cc
later_is (Some k) period e = go (nat_lt 0 k) e
  where
    go : (b : Bool) → (if b then Some k else None) ≡ Some period → Some k ≡ Some period
    go true h = h
    go false h = cc

pub indep_after : (core : Core) (p : Stages) (cs scs : List Group) (s t : Stated) (fields : List (List ℕ)) → s.place.section ≡ sections.Indep → Tie core p cs scs s → indep_line core p s fields ≡ Ok t → After core p (with_line cs (line_at s.place fields)) scs s t
unfolding indep_line
indep_after core p cs scs s t (column ∷ row ∷ word ∷ probability ∷ []) is tie e =
    let fields = column ∷ row ∷ word ∷ probability ∷ [] in
    let g = fresh s.place fields in
    let idle = idle_in core p cs scs s s.in_work (subst (Work core p cs scs s s.in_work) is tie.work) in
    let r : Ready core p cs scs s = record { cases = tie.cases; sets = idle.1; names = tie.names; heads = tie.heads; nodes = idle.2; quiet = idle.3 } in
    let found = bind_ok (known_entry core p column row) (λ entry. number_of word >>= λ value. indep_at core p s entry value (stage_of p entry) probability) t e in
    let entry = found.0 in
    let number = bind_ok (number_of word) (λ value. indep_at core p s entry value (stage_of p entry) probability) t found.2 in
    let known = known_is core p column row entry found.1 in
    subst (λ groups. After core p groups scs s t) (sym (ap (λ section. grouped_if cs (line_at s.place fields) (begins section fields)) is))
    (at_after core p cs scs s t g entry number.0 (stage_of p entry) probability r idle.0 (ap (λ section. owner_at core section g) is ∙ ap OfEntry known)
    (sym (ap (λ section. period_at core p section g) is ∙ ap (entry_stage p) known)) refl
    (λ result h. set_is core (core_value core) s.place.mode column row word entry number.0 result known (number_is word number.0 number.1) h ∙ sym (ap (λ section. sets_by core (core_value core) (pairs_at section g)) is)) number.2)
indep_after core p cs scs s t (column ∷ row ∷ word ∷ name ∷ probability ∷ []) is tie e =
    let fields = column ∷ row ∷ word ∷ name ∷ probability ∷ [] in
    let g = fresh s.place fields in
    let idle = idle_in core p cs scs s s.in_work (subst (Work core p cs scs s s.in_work) is tie.work) in
    let r : Ready core p cs scs s = record { cases = tie.cases; sets = idle.1; names = tie.names; heads = tie.heads; nodes = idle.2; quiet = idle.3 } in
    let found = bind_ok (known_entry core p column row) (λ entry. number_of word >>= λ value. needs cause.EntryStage (later_period p name) >>= λ period. indep_at core p s entry value period probability) t e in
    let entry = found.0 in
    let number = bind_ok (number_of word) (λ value. needs cause.EntryStage (later_period p name) >>= λ period. indep_at core p s entry value period probability) t found.2 in
    let named = bind_ok (needs cause.EntryStage (later_period p name)) (λ period. indep_at core p s entry number.0 period probability) t number.2 in
    let known = known_is core p column row entry found.1 in
    let period = there (place_of p.names name) named.0 0 (later_is (place_of p.names name) named.0 (needs_ok cause.EntryStage (later_period p name) named.0 named.1)) in
    subst (λ groups. After core p groups scs s t) (sym (ap (λ section. grouped_if cs (line_at s.place fields) (begins section fields)) is))
    (at_after core p cs scs s t g entry number.0 named.0 probability r idle.0 (ap (λ section. owner_at core section g) is ∙ ap OfEntry known)
    (period ∙ sym (ap (λ section. period_at core p section g) is)) refl
    (λ result h. set_is core (core_value core) s.place.mode column row word entry number.0 result known (number_is word number.0 number.1) h ∙ sym (ap (λ section. sets_by core (core_value core) (pairs_at section g)) is)) named.2)
indep_after core p cs scs s t [] is tie e = cc
indep_after core p cs scs s t (_ ∷ []) is tie e = cc
indep_after core p cs scs s t (_ ∷ _ ∷ []) is tie e = cc
indep_after core p cs scs s t (_ ∷ _ ∷ _ ∷ []) is tie e = cc
indep_after core p cs scs s t (_ ∷ _ ∷ _ ∷ _ ∷ _ ∷ _ ∷ _) is tie e = cc

-- ---- BLOCKS

block_case_after : (core : Core) (p : Stages) (cs scs : List Group) (s u t : Stated) (g : Group) (name : List ℕ) (period : ℕ) (chance : ℚ) (place : Option ℕ) → s.place.section ≡ sections.Blocks → u.place ≡ s.place → g.head.at.section ≡ sections.Blocks →
    Ready core p cs scs u → place_of u.block_names name ≡ place → owner_of core g ≡ OfName name → period ≡ period_of core p g → chance ≡ stated_probability g → sets_of_case core g ≡ [] → block_case u name period chance place ≡ Ok t → After core p (cs ++ g ∷ []) scs s t
block_case_after core p cs scs s u t g name period chance None is placed of r at owner staged likely sets e =
    let v : Stated = record (with_case (with_named u name period) (length u.blocks) chance) { in_work = true } in
    let c = r.cases in
    let case : InCase core (cs ++ g ∷ []) v = record { before = cs; g = g; is = refl; section = of; done = r.sets; sets = r.quiet ∙ sym sets } in
    subst (After core p (cs ++ g ∷ []) scs s) (sym (ok_is v t e)) (record {
      tie = record {
        cases = new_named core p cs g u.blocks u.singles u.single_blocks u.block_names u.block_numbers u.cases name period chance owner at staged likely c;
        names = r.names;
        heads = r.heads;
        work = subst (Work core p (cs ++ g ∷ []) scs v true) (sym (ap (λ (at : Place). at.section) placed ∙ is)) (case, r.nodes);
      };
      place = placed;
    })
block_case_after core p cs scs s u t g name period chance (Some k) is placed of r at owner staged likely sets e =
    let n = get_or u.block_numbers k 0 in
    let v : Stated = record (with_case u n chance) { in_work = true } in
    let h = else_ok (not (nat_eq (get_or u.blocks n 0) period)) cause.EntryStage (Ok v) t e in
    let c = r.cases in
    let known : number_from 0 (owners core cs) (owner_of core g) ≡ Some n =
    ap (number_from 0 (owners core cs)) owner ∙ c.of_name name ∙ ap (seen u.block_numbers) at in
    let case : InCase core (cs ++ g ∷ []) v = record { before = cs; g = g; is = refl; section = of; done = r.sets; sets = r.quiet ∙ sym sets } in
    subst (After core p (cs ++ g ∷ []) scs s) (sym (ok_is v t h.1)) (record {
      tie = record {
        cases = old_case core p cs g u.blocks u.singles u.single_blocks u.block_names u.block_numbers u.cases n chance known likely c;
        names = r.names;
        heads = r.heads;
        work = subst (Work core p (cs ++ g ∷ []) scs v true) (sym (ap (λ (at : Place). at.section) placed ∙ is)) (case, r.nodes);
      };
      place = placed;
    })

block_head_after : (core : Core) (p : Stages) (cs scs : List Group) (s t : Stated) (first name period_word word : List ℕ) → s.place.section ≡ sections.Blocks → Tie core p cs scs s → block_head p s first name period_word word ≡ Ok t →
    After core p (cs ++ fresh s.place (first ∷ name ∷ period_word ∷ word ∷ []) ∷ []) scs s t
unfolding block_head
block_head_after core p cs scs s t first name period_word word is tie e =
    let g = fresh s.place (first ∷ name ∷ period_word ∷ word ∷ []) in
    let u = closed s in
    let h = else_ok (not (same_name first (codes "BL"))) cause.FieldCount (needs cause.EntryStage (later_period p period_word) >>= λ period. probability_of word >>= λ chance. block_case u name period chance (place_of u.block_names name)) t e in
    let named = bind_ok (needs cause.EntryStage (later_period p period_word)) (λ period. probability_of word >>= λ chance. block_case u name period chance (place_of u.block_names name)) t h.1 in
    let likely = bind_ok (probability_of word) (λ chance. block_case u name named.0 chance (place_of u.block_names name)) t named.2 in
    let period = there (place_of p.names period_word) named.0 0 (later_is (place_of p.names period_word) named.0 (needs_ok cause.EntryStage (later_period p period_word) named.0 named.1)) in
    block_case_after core p cs scs s u t g name named.0 likely.0 (place_of u.block_names name) is (closed_place s) is (ready core p cs scs s tie) refl (ap (λ section. owner_at core section g) is)
    (period ∙ sym (ap (λ section. period_at core p section g) is)) (probability_is word likely.0 likely.1) (ap (λ section. sets_by core (core_value core) (pairs_at section g)) is) likely.2

-- a line that sets entries stands behind one that begins a case
in_work_ok : (s t : Stated) (next : Result Stated Cause) → if_in_work s next ≡ Ok t → (s.in_work ≡ true) × (next ≡ Ok t)
in_work_ok s t next e = go s.in_work refl e
  where
    go : (b : Bool) → s.in_work ≡ b → (if b then next else Err cause.SectionOrder) ≡ Ok t → (s.in_work ≡ true) × (next ≡ Ok t)
    go true is h = (is, h)
    go false is h = cc

owner_more : (core : Core) (section : StochSection) (g : Group) (line : Placed Place) → owner_at core section (more_on g line) ≡ owner_at core section g
owner_more core sections.Indep g line = refl
owner_more core sections.Blocks g line = refl
owner_more core sections.Scenarios g line = refl
owner_more core sections.Start g line = refl
owner_more core sections.Stoch g line = refl
owner_more core sections.End g line = refl

period_more : (core : Core) (p : Stages) (section : StochSection) (g : Group) (line : Placed Place) → period_at core p section (more_on g line) ≡ period_at core p section g
period_more core p sections.Indep g line = refl
period_more core p sections.Blocks g line = refl
period_more core p sections.Scenarios g line = refl
period_more core p sections.Start g line = refl
period_more core p sections.Stoch g line = refl
period_more core p sections.End g line = refl

block_pairs_more : (g : Group) (line : Placed Place) → g.head.at.section ≡ sections.Blocks → pairs_in g ++ pairs_on line ≡ pairs_in (more_on g line)
block_pairs_more g line is =
    ap (λ section. pairs_at section g ++ pairs_on line) is ∙ sym (flat_snoc pairs_on g.tail line) ∙ sym (ap (λ section. pairs_at section (more_on g line)) is)

scenario_pairs_more : (g : Group) (line : Placed Place) → g.head.at.section ≡ sections.Scenarios → pairs_in g ++ pairs_on line ≡ pairs_in (more_on g line)
scenario_pairs_more g line is =
    ap (λ section. pairs_at section g ++ pairs_on line) is ∙ sym (flat_snoc pairs_on g.tail line) ∙ sym (ap (λ section. pairs_at section (more_on g line)) is)

case_more : (core : Core) (p : Stages) (cs scs : List Group) (s t : Stated) (line : Placed Place) → s.place.section ≡ sections.Blocks → s.in_work ≡ true → Tie core p cs scs s → Adds s t (sets_by core (core_value core) (pairs_on line)) → After core p (to_last cs line) scs s t
case_more core p cs scs s t line is busy tie adds =
    let w : InCase core cs s × AllNodes core p scs s = subst (Work core p cs scs s true) is (subst (λ b. Work core p cs scs s b s.place.section) busy tie.work) in
    let c = w.0 in
    let g = c.g in
    let more = more_on g line in
    let all = c.before ++ more ∷ [] in
    let v : Stated = touched s adds.owned adds.owners adds.entries (s.sets ++ sets_by core (core_value core) (pairs_on line)) in
    let there : Cases core p (c.before ++ g ∷ []) s.blocks s.singles s.single_blocks s.block_names s.block_numbers s.cases =
    subst (λ groups. Cases core p groups s.blocks s.singles s.single_blocks s.block_names s.block_numbers s.cases) c.is tie.cases in
    let case : InCase core all v = record {
      before = c.before;
      g = more;
      is = refl;
      section = c.section;
      done = c.done;
      sets = ap (λ (sets : Sets). sets ++ sets_by core (core_value core) (pairs_on line)) c.sets ∙ sets_append core (core_value core) (pairs_in g) (pairs_on line) ∙ ap (sets_by core (core_value core)) (block_pairs_more g line c.section);
    } in
    let tied : Tie core p all scs v = record {
      cases = same_tables core p c.before g more s.blocks s.singles s.single_blocks s.block_names s.block_numbers s.cases (owner_more core g.head.at.section g line) (period_more core p g.head.at.section g line) refl there;
      names = tie.names;
      heads = tie.heads;
      work = subst (λ b. Work core p all scs v b v.place.section) (sym busy) (subst (Work core p all scs v true) (sym is) (case, w.1));
    } in
    subst (λ groups. After core p groups scs s t) (sym (ap (λ groups. to_last groups line) c.is ∙ to_last_is c.before g line))
    (subst (After core p all scs s) (sym adds.is) (record { tie = tied; place = refl }))

pub block_after : (core : Core) (p : Stages) (cs scs : List Group) (s t : Stated) (fields : List (List ℕ)) → s.place.section ≡ sections.Blocks → Tie core p cs scs s → block_line core p s fields ≡ Ok t → After core p (with_line cs (line_at s.place fields)) scs s t
unfolding block_line
block_after core p cs scs s t (column ∷ row ∷ word ∷ []) is tie e =
    let line = line_at s.place (column ∷ row ∷ word ∷ []) in
    let h = in_work_ok s t (case_pair core p s column row word) e in
    subst (λ groups. After core p groups scs s t) (sym (ap (λ section. grouped_if cs line (begins section line.fields)) is)) (case_more core p cs scs s t line is h.0 tie (case_adds core p s t column row word h.1))
block_after core p cs scs s t (first ∷ name ∷ period ∷ probability ∷ []) is tie e =
    let line = line_at s.place (first ∷ name ∷ period ∷ probability ∷ []) in
    subst (λ groups. After core p groups scs s t) (sym (ap (λ section. grouped_if cs line (begins section line.fields)) is)) (block_head_after core p cs scs s t first name period probability is tie e)
block_after core p cs scs s t (column ∷ row ∷ word ∷ second ∷ other ∷ []) is tie e =
    let line = line_at s.place (column ∷ row ∷ word ∷ second ∷ other ∷ []) in
    let h = in_work_ok s t (case_pair core p s column row word >>= λ u. case_pair core p u column second other) e in
    subst (λ groups. After core p groups scs s t) (sym (ap (λ section. grouped_if cs line (begins section line.fields)) is)) (case_more core p cs scs s t line is h.0 tie (case_adds_twice core p s t column row word second other h.1))
block_after core p cs scs s t [] is tie e = cc
block_after core p cs scs s t (_ ∷ []) is tie e = cc
block_after core p cs scs s t (_ ∷ _ ∷ []) is tie e = cc
block_after core p cs scs s t (_ ∷ _ ∷ _ ∷ _ ∷ _ ∷ _ ∷ _) is tie e = cc

-- ---- SCENARIOS

parent_there : (o parent : Option ℕ) → some_parent o ≡ Some parent → parent ≡ o
parent_there None parent e = cc
parent_there (Some n) parent e = cc

parent_is : (names : List (List ℕ)) (name : List ℕ) (parent : Option ℕ) (b : Bool) → (if b then Some None else some_parent (place_of names name)) ≡ Some parent → parent ≡ (if b then None else place_of names name)
parent_is names name parent true e = cc
parent_is names name parent false e = parent_there (place_of names name) parent e

stage_is : (b : Bool) (o : Option ℕ) (period : ℕ) → if_many b o ≡ Some period → period ≡ at_least_one (unwrap_or o 0)
stage_is true None period e = cc
stage_is true (Some k) period e = cc
stage_is false o period e = cc

branch_head_after : (core : Core) (p : Stages) (cs scs : List Group) (s t : Stated) (first name parent_word word period_word : List ℕ) → s.place.section ≡ sections.Scenarios → Tie core p cs scs s → branch_head p s name parent_word word period_word ≡ Ok t →
    After core p cs (scs ++ fresh s.place (first ∷ name ∷ parent_word ∷ word ∷ period_word ∷ []) ∷ []) s t
unfolding branch_head
branch_head_after core p cs scs s t first name parent_word word period_word is tie e =
    let g = fresh s.place (first ∷ name ∷ parent_word ∷ word ∷ period_word ∷ []) in
    let u = closed s in
    let r = ready core p cs scs s tie in
    let ks = scenarios_of core p scs in
    let k = scenario_of core p ks g in
    let h = else_ok (is_some (place_of s.branch_names name)) cause.ScenarioTwice (needs cause.ParentUnknown (steps.parent_of s parent_word) >>= λ parent. probability_of word >>= λ chance. needs cause.BranchPeriod (branch_period p period_word) >>= λ period. Ok (with_branch u name parent chance period)) t e in
    let above = bind_ok (needs cause.ParentUnknown (steps.parent_of s parent_word)) (λ parent. probability_of word >>= λ chance. needs cause.BranchPeriod (branch_period p period_word) >>= λ period. Ok (with_branch u name parent chance period)) t h.1 in
    let likely = bind_ok (probability_of word) (λ chance. needs cause.BranchPeriod (branch_period p period_word) >>= λ period. Ok (with_branch u name above.0 chance period)) t above.2 in
    let staged = bind_ok (needs cause.BranchPeriod (branch_period p period_word)) (λ period. Ok (with_branch u name above.0 likely.0 period)) t likely.2 in
    let v : Stated = with_branch u name above.0 likely.0 staged.0 in
    let parent : above.0 ≡ parent_of ks g = parent_is s.branch_names parent_word above.0 (is_root parent_word) (needs_ok cause.ParentUnknown (steps.parent_of s parent_word) above.0 above.1) ∙ ap (λ (names : List (List ℕ)). parent_named names parent_word) tie.names in
    let stage : staged.0 ≡ at_least_one (period_named p period_word) = stage_is (nat_lt 1 (length p.names)) (place_of p.names period_word) staged.0 (needs_ok cause.BranchPeriod (branch_period p period_word) staged.0 staged.1) in
    let more : scenarios_of core p (scs ++ g ∷ []) ≡ ks ++ k ∷ [] = scenarios_snoc core p [] scs g in
    let scenario : InScenario core p (scs ++ g ∷ []) v = record {
      before = scs;
      g = g;
      is = refl;
      section = is;
      done = r.nodes;
      parent = parent;
      sets = r.quiet ∙ sym (ap (λ section. sets_by core (value_behind core (path_above ks g)) (pairs_at section g)) is);
    } in
    subst (After core p cs (scs ++ g ∷ []) s) (sym (ok_is v t staged.2)) (record {
      tie = record {
        cases = r.cases;
        names = mapped name_of u.branch_names ks name k r.names refl ∙ ap (map name_of) (sym more);
        heads = mapped scenario_head u.branches ks (branch_head_of likely.0 staged.0) k r.heads (ap (λ chance. branch_head_of chance staged.0) (probability_is word likely.0 likely.1) ∙ ap (branch_head_of (number_in word)) stage) ∙ ap (map scenario_head) (sym more);
        work = subst (Work core p cs (scs ++ g ∷ []) v true) (sym (ap (λ (at : Place). at.section) (closed_place s) ∙ is)) (r.sets, scenario);
      };
      place = closed_place s;
    })

-- what is known of a scenario by the head of its group alone
scenario_map : {X : Type 0} (core : Core) (p : Stages) (f : Scenario → X) (before : List Group) (g h : Group) → f (scenario_of core p (scenarios_of core p before) h) ≡ f (scenario_of core p (scenarios_of core p before) g) →
    map f (scenarios_of core p (before ++ g ∷ [])) ≡ map f (scenarios_of core p (before ++ h ∷ []))
scenario_map core p f before g h e =
    let ks = scenarios_of core p before in
    ap (map f) (scenarios_snoc core p [] before g) ∙ mapped_last ks (scenario_of core p ks g) (scenario_of core p ks h) e ∙ ap (map f) (sym (scenarios_snoc core p [] before h))
  where
    mapped_last : (ks : List Scenario) (one other : Scenario) → f other ≡ f one → map f (ks ++ one ∷ []) ≡ map f (ks ++ other ∷ [])
    mapped_last ks one other e = map-append f ks (one ∷ []) ∙ mapped f (map f ks) ks (f one) other refl (sym e)

branch_more : (core : Core) (p : Stages) (cs scs : List Group) (s t : Stated) (line : Placed Place) → s.place.section ≡ sections.Scenarios → s.in_work ≡ true → Tie core p cs scs s →
    Adds s t (sets_by core (value_behind core (path_among (paths_of s.nodes) s.parent)) (pairs_on line)) → After core p cs (to_last scs line) s t
branch_more core p cs scs s t line is busy tie adds =
    let w : AllCases core cs s × InScenario core p scs s = subst (Work core p cs scs s true) is (subst (λ b. Work core p cs scs s b s.place.section) busy tie.work) in
    let c = w.1 in
    let g = c.g in
    let ks = scenarios_of core p c.before in
    let more = more_on g line in
    let all = c.before ++ more ∷ [] in
    let base = value_behind core (path_above ks g) in
    let added = sets_by core (value_behind core (path_among (paths_of s.nodes) s.parent)) (pairs_on line) in
    let v : Stated = touched s adds.owned adds.owners adds.entries (s.sets ++ added) in
    let scenario : InScenario core p all v = record {
      before = c.before;
      g = more;
      is = refl;
      section = c.section;
      done = c.done;
      parent = c.parent;
      sets = ap (λ (path : Sets). s.sets ++ sets_by core (value_behind core path) (pairs_on line)) (path_is core p scs s c) ∙ ap (λ (sets : Sets). sets ++ sets_by core base (pairs_on line)) c.sets
          ∙ sets_append core base (pairs_in g) (pairs_on line) ∙ ap (sets_by core base) (scenario_pairs_more g line c.section);
    } in
    let tied : Tie core p cs all v = record {
      cases = tie.cases;
      names = tie.names ∙ ap (λ groups. map name_of (scenarios_of core p groups)) c.is ∙ scenario_map core p name_of c.before g more refl;
      heads = tie.heads ∙ ap (λ groups. map scenario_head (scenarios_of core p groups)) c.is ∙ scenario_map core p scenario_head c.before g more refl;
      work = subst (λ b. Work core p cs all v b v.place.section) (sym busy) (subst (Work core p cs all v true) (sym is) (w.0, scenario));
    } in
    subst (λ groups. After core p cs groups s t) (sym (ap (λ groups. to_last groups line) c.is ∙ to_last_is c.before g line))
    (subst (After core p cs all s) (sym adds.is) (record { tie = tied; place = refl }))

pub branch_after : (core : Core) (p : Stages) (cs scs : List Group) (s t : Stated) (fields : List (List ℕ)) → s.place.section ≡ sections.Scenarios → Tie core p cs scs s → branch_line core p s fields ≡ Ok t → After core p cs (with_line scs (line_at s.place fields)) s t
unfolding branch_line
branch_after core p cs scs s t (column ∷ row ∷ word ∷ []) is tie e =
    let line = line_at s.place (column ∷ row ∷ word ∷ []) in
    let h = in_work_ok s t (branch_pair core p s column row word) e in
    subst (λ groups. After core p cs groups s t) (sym (ap (λ section. grouped_if scs line (begins section line.fields)) is)) (branch_more core p cs scs s t line is h.0 tie (branch_adds core p s t column row word h.1))
branch_after core p cs scs s t (first ∷ row ∷ word ∷ second ∷ other ∷ []) is tie e =
    subst (λ groups. After core p cs groups s t) (sym (ap (λ section. grouped_if scs (line_at s.place (first ∷ row ∷ word ∷ second ∷ other ∷ [])) (begins section (first ∷ row ∷ word ∷ second ∷ other ∷ []))) is)) (go (is_head first) e)
  where
    go : (b : Bool) → (if b then branch_head p s row word second other else if_in_work s (branch_pair core p s first row word >>= λ u. branch_pair core p u first second other)) ≡ Ok t → After core p cs (grouped_if scs (line_at s.place (first ∷ row ∷ word ∷ second ∷ other ∷ [])) b) s t
    go true h = branch_head_after core p cs scs s t first row word second other is tie h
    go false h =
        let k = in_work_ok s t (branch_pair core p s first row word >>= λ u. branch_pair core p u first second other) h in
        branch_more core p cs scs s t (line_at s.place (first ∷ row ∷ word ∷ second ∷ other ∷ [])) is k.0 tie (branch_adds_twice core p s t first row word second other k.1)
branch_after core p cs scs s t [] is tie e = cc
branch_after core p cs scs s t (_ ∷ []) is tie e = cc
branch_after core p cs scs s t (_ ∷ _ ∷ []) is tie e = cc
branch_after core p cs scs s t (_ ∷ _ ∷ _ ∷ _ ∷ []) is tie e = cc
branch_after core p cs scs s t (_ ∷ _ ∷ _ ∷ _ ∷ _ ∷ _ ∷ _) is tie e = cc

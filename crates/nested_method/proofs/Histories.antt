-- The method goes on in its history: through steps, and behind an edit of the script.
use Rattle.std.proofs.Common.{◌≡◌, ◌⊎◌, inl, inr, ℕ, zero, suc, ◌+◌, ◌<◌, ◌≤◌, ◌^◌, Bool, true, false, ◌&&◌, not, eqb, List, [], ◌∷◌, ◌++◌, length, drop, Option, Some, None}
use Rattle.std.proofs.Common.{refl, sym, ap, ap₂, subst, ◌∙◌, arith}
use Rattle.rationals.specs.Passes.{passes}
use Rattle.rationals.specs.declared.Op.TheVariants.{Sub}
use Rattle.rationals.specs.Choices.{pick}
use Rattle.smps_words.specs.declared.entry.Entry.TheVariants.{Cost as CostEntry, Matrix, Rhs}
use Rattle.scen_defs.specs.Lists.{Each}
use Rattle.scen_defs.specs.Program.{Program, View, view_of}
use Rattle.scen_defs.specs.Valid.{Lives, IsProgram}
use Rattle.scen_defs.specs.declared.report.Kind.{Kind}
use Rattle.scen_defs.specs.declared.report.Kind.TheVariants as run_kind
use Rattle.scen_defs.proofs.SumLaws.{each-map}
use Rattle.cut_defs.specs.declared.kinds.Bank.{Bank}
use Rattle.cut_defs.specs.declared.kinds.Bank.TheVariants.{Plain, Cone}
use Rattle.cut_defs.specs.declared.versions.Touch.{Touch}
use Rattle.cut_defs.specs.declared.versions.Shift.{Shift}
use Rattle.cut_defs.specs.Data.{Book, IsRight}
use Rattle.cut_defs.specs.Repairs.{IsShift}
use Rattle.cut_pool.specs.Pool.{IsShiftOf}
use Rattle.cut_pool.proofs.Fresh.{pools_keep_what_is_made}
use Rattle.edit_defs.specs.declared.edit.Edit.{Edit}
use Rattle.edit_defs.specs.declared.edit.Edit.TheVariants.{Set, Prob, Drop, Add}
use Rattle.edit_defs.specs.After.{after, after_edits, home_of}
use Rattle.edit_defs.specs.Applies.{Applies}
use Rattle.edit_defs.specs.Data.{version, book, history, view_in}
use Rattle.edit_defs.specs.Shifts.{HasWidths, IsEditAt, new_side, old_side, move}
use Rattle.edit_defs.specs.Touches.{is_rows, touches_rows, touches_costs}
use Rattle.edit_defs.proofs.Books.{node-right, all-programs}
use Rattle.edit_defs.proofs.EditLaws.{scripts_make_books}
use Rattle.edit_defs.proofs.Lists.{each-append}
use Rattle.edit_defs.proofs.Programs.{edits_keep_programs}
use Rattle.edit_defs.proofs.Shifts.{widths_stay}
use Rattle.edit_retire.specs.Dues.{rows_version, is_gone_in, in_bank, carried, due_at, dues_up, dues_in, dues_from}
use Rattle.edit_retire.specs.Shifted.{shift_of}
use Rattle.edit_retire.specs.Laws.{kind_of}
use Rattle.edit_retire.proofs.ShiftLaws.{shifts_are_the_books}
use Rattle.node_data.specs.declared.versions.Version.{Version}
use Rattle.node_data.specs.Counts.{raised, version_of}
use Rattle.pass_core.specs.declared.budget.Budget.{Budget}
use Rattle.pass_core.specs.declared.state.State.{State}
use Rattle.pass_core.specs.Made.{BankBooks, bank_book, AreBooksOf, CutsAreMade, HasShiftOf, script_books}
use Rattle.pass_core.specs.Beginning.{StartsOver}
use Rattle.pass_core.proofs.MadeAfterEdits.{all_made_at_start, all_made_behind, never_touched}
use Rattle.nested_method.specs.declared.method.Working.{Working}
use Rattle.nested_method.specs.Edited.{is_grown, touches_of, dues_of, IsEdited}
use Rattle.nested_method.specs.Stands.{WorksOn}
use Rattle.nested_method.specs.Scripted.{AreToCome, CountTouches, IsInHistory, HistoriesMakeSound}
use Rattle.nested_method.proofs.Counting.{after_next, edit_at, is_within, version_most, counts_behind}

-- ---- what is to come
program_at : (k : ℕ) (first : Program) (es : List Edit) → AreToCome first es → IsProgram (after_edits k first es)
program_at k first es h = all-programs edits_keep_programs es k first h.program h.apply

-- behind the first edit the others are to come
pub still_to_come : (p : Program) (e : Edit) (rest : List Edit) → AreToCome p (e ∷ rest) → AreToCome (after p e) rest
still_to_come p e rest h = record {
  program = edits_keep_programs p e h.program h.apply.0;
  apply = h.apply.1;
  widths = λ l. subst HasWidths (none_left rest) (widths_stay p (e ∷ rest) 1 h.program h.apply (h.widths (omega arith)));
  few = let l : length (e ∷ rest) < 2 ^ 32 = h.few in omega (arith, l);
}
  where
    none_left : (es : List Edit) → after_edits zero (after p e) es ≡ after p e
    none_left [] = refl
    none_left (f ∷ es) = refl

-- behind the first k edits those that are left are to come
left_to_come : (k : ℕ) (first : Program) (es : List Edit) → AreToCome first es → AreToCome (after_edits k first es) (drop k es)
left_to_come zero first [] h = h
left_to_come (suc k) first [] h = h
left_to_come zero first (e ∷ es) h = h
left_to_come (suc k) first (e ∷ es) h = left_to_come k (after first e) es (still_to_come first e es h)

-- what is to come to a state in a history
pub is_to_come : (first : Program) (edits : List Edit) (came : ℕ) (p : Program) (rest : List Edit) (s : State) → IsInHistory first edits came p rest s → AreToCome p rest
is_to_come first edits came p rest s h =
    subst (λ (q : Program). AreToCome q rest) (sym h.program) (subst (AreToCome (after_edits came first edits)) (sym h.left) (left_to_come came first edits h.to_come))

-- ---- steps
-- the books are right of the program
right_by : (kind : Kind) (k : ℕ) (first : Program) (es : List Edit) (versions : List Version) → AreToCome first es → CountTouches k first es versions
    → (n : ℕ) → Lives (after_edits k first es) n
    → IsRight (view_in kind (after_edits k first es)) (book kind first es) n (version_of versions n).rows (version_of versions n).costs
right_by kind k first es versions h counts n l =
    subst (λ (v : Version). IsRight (view_in kind (after_edits k first es)) (book kind first es) n v.rows v.costs) (sym (counts n))
    (node-right edits_keep_programs kind first es h.program h.apply k n l)

books_are : (first : Program) (edits : List Edit) (came : ℕ) (p : Program) (rest : List Edit) (s : State) → IsInHistory first edits came p rest s
    → AreBooksOf p s.versions (script_books first edits)
books_are first edits came p rest s h = subst (λ (q : Program). AreBooksOf q s.versions (script_books first edits)) (sym h.program) (record {
  plain = right_by run_kind.Cost came first edits s.versions h.to_come h.versions;
  cone = right_by run_kind.Recession came first edits s.versions h.to_come h.versions;
})

-- a step that keeps the versions, and all cuts made for books that are right
pub history_stays : (first : Program) (edits : List Edit) (came : ℕ) (p : Program) (rest : List Edit) (old new : State) → new.versions ≡ old.versions
    → ((b : BankBooks) → IsProgram p → AreBooksOf p old.versions b → CutsAreMade b old → CutsAreMade b new)
    → IsInHistory first edits came p rest old → IsInHistory first edits came p rest new
history_stays first edits came p rest old new e step h = record {
  to_come = h.to_come;
  program = h.program;
  left = h.left;
  versions = subst (CountTouches came first edits) (sym e) h.versions;
  made = step (script_books first edits) (subst IsProgram (sym h.program) (program_at came first edits h.to_come)) (books_are first edits came p rest old h) h.made;
}

-- before anything is done
pub history_begins : (p : Program) (es : List Edit) (s : State) → AreToCome p es → ((n : ℕ) → version_of s.versions n ≡ record { rows = 0; costs = 0 })
    → ((b : BankBooks) → CutsAreMade b s) → IsInHistory p es 0 p es s
history_begins p es s h zeros made = record {
  to_come = h;
  program = sym (none_yet es);
  left = all_left es;
  versions = λ n. zeros n ∙ sym (ap₂ (λ (r c : ℕ). let x : Version = record { rows = r; costs = c } in x) (no_rows es n) (no_costs es n));
  made = made (script_books p es);
}
  where
    none_yet : (xs : List Edit) → after_edits zero p xs ≡ p
    none_yet [] = refl
    none_yet (e ∷ xs) = refl

    all_left : (xs : List Edit) → xs ≡ drop zero xs
    all_left [] = refl
    all_left (e ∷ xs) = refl

    no_rows : (xs : List Edit) (n : ℕ) → version touches_rows zero p xs n ≡ 0
    no_rows [] n = refl
    no_rows (e ∷ xs) n = refl

    no_costs : (xs : List Edit) (n : ℕ) → version touches_costs zero p xs n ≡ 0
    no_costs [] n = refl
    no_costs (e ∷ xs) n = refl

-- what is to come to a state in a history
pub comes_here : (first : Program) (edits : List Edit) (came : ℕ) (p : Program) (rest : List Edit) (s : State) → IsInHistory first edits came p rest s
    → AreToCome p rest
comes_here first edits came p rest s h =
    subst (λ (q : Program). AreToCome q rest) (sym h.program) (subst (AreToCome (after_edits came first edits)) (sym h.left) (left_to_come came first edits h.to_come))

-- begun anew, the history begins with the program as it is
pub over_history : (first : Program) (edits : List Edit) (came : ℕ) (p : Program) (rest : List Edit) (old new : State) → (new ≡ old) ⊎ StartsOver p old new
    → IsInHistory first edits came p rest old → IsInHistory first edits came p rest new ⊎ IsInHistory p rest 0 p rest new
over_history first edits came p rest old new (inl e) h = inl (subst (IsInHistory first edits came p rest) (sym e) h)
over_history first edits came p rest old new (inr o) h =
    let b = o.beginning in
    inr (history_begins p rest new (comes_here first edits came p rest old h)
    (λ n. ap (λ (vs : List Version). version_of vs n) b.versions ∙ never_touched (length p.nodes) n)
    (λ books. all_made_at_start books new.kind new.banks new.ends (length p.nodes) b.pools b.ends))

-- ---- the sweeps of an edit
module _ (b : BankBooks) (shift : Option Shift) (has : (bank : Bank) (t : Touch) → IsShiftOf (bank_book bank b) (carried bank t shift)) where
  at_node : (all : List Touch) (bank : Bank) (t : Touch) (n : ℕ) → Each (HasShiftOf b) (due_at all bank t shift n)
  at_node all bank t n = go (not (eqb n 0) && not (is_gone_in n all))
    where
      go : (there : Bool) → Each (HasShiftOf b) (pick there (record { bank = bank; pool = n; touch = t; shift = carried bank t shift } ∷ []) [])
      go true = (has bank t, tt)
      go false = tt

  upwards : (v : View) (all : List Touch) (bank : Bank) (t : Touch) (k n : ℕ) → Each (HasShiftOf b) (dues_up v all bank t shift k n)
  upwards v all bank t zero n = tt
  upwards v all bank t (suc k) n =
      each-append (HasShiftOf b) (due_at all bank t shift n) (dues_up v all bank t shift k (v.parent n)) (at_node all bank t n) (upwards v all bank t k (v.parent n))

  from_touches : (v : View) (all ts : List Touch) → Each (HasShiftOf b) (dues_from v all shift ts)
  from_touches v all [] = tt
  from_touches v all (t ∷ ts) =
      each-append (HasShiftOf b) (dues_in v all Plain t shift ++ dues_in v all Cone t shift) (dues_from v all shift ts)
      (each-append (HasShiftOf b) (dues_in v all Plain t shift) (dues_in v all Cone t shift)
      (upwards v all Plain t (suc (v.stage t.node)) t.node) (upwards v all Cone t (suc (v.stage t.node)) t.node))
      (from_touches v all ts)

-- the shift that an edit is, with the version of the rows that it touches
pub shift_version : (p : Program) (e : Edit) (versions : List Version) (s : Shift) → shift_of p e (rows_version (touches_of p e versions)) ≡ Some s
    → ((n : ℕ) → (version_of versions n).rows + 1 < 2 ^ 32) → rows_version (touches_of p e versions) ≡ suc (version_of versions s.node).rows
shift_version p (Set name (CostEntry j) v) versions s e few = absurd (cc)
shift_version p (Set name (Matrix i j) v) versions s e few = absurd (cc)
shift_version p (Set name (Rhs i) v) versions s e few = go (passes Sub (new_side p i v) (old_side p name i)) e
  where
    n : ℕ
    n = home_of p name (Rhs i)

    go : (t : Bool) → pick t None (Some (record { node = home_of p name (Rhs i); row = i; by = move p name i v; version = raised (version_of versions (home_of p name (Rhs i))).rows })) ≡ Some s
        → raised (version_of versions (home_of p name (Rhs i))).rows ≡ suc (version_of versions s.node).rows
    go true q = absurd (cc)
    go false q =
        let node : home_of p name (Rhs i) ≡ s.node = ap (λ (x : Shift). x.node) (let same : record { node = home_of p name (Rhs i); row = i; by = move p name i v; version = raised (version_of versions (home_of p name (Rhs i))).rows } ≡ s = cc in same) in
        let less : (version_of versions (home_of p name (Rhs i))).rows + 1 < 2 ^ 32 = few (home_of p name (Rhs i)) in
        let up : raised (version_of versions (home_of p name (Rhs i))).rows ≡ suc (version_of versions (home_of p name (Rhs i))).rows = omega (arith, less) in
        up ∙ ap (λ (m : ℕ). suc (version_of versions m).rows) node
shift_version p (Prob name q) versions s e few = absurd (cc)
shift_version p (Drop name) versions s e few = absurd (cc)
shift_version p (Add name parent q t) versions s e few = absurd (cc)

in_book : (bank : Bank) (first : Program) (es : List Edit) → book (kind_of bank) first es ≡ bank_book bank (script_books first es)
in_book Plain first es = refl
in_book Cone first es = refl

pub carried_of : (book : Book) (bank : Bank) (t : Touch) (s : Shift) → IsShift book (in_bank bank s) → IsShiftOf book (carried bank t (Some s))
carried_of book bank t s h = go (is_rows t.part && (eqb t.node s.node && eqb t.version s.version))
  where
    go : (fits : Bool) → IsShiftOf book (pick fits (Some (in_bank bank s)) None)
    go true = h
    go false = tt

dues_have : (k : ℕ) (p first : Program) (es : List Edit) (e : Edit) (versions : List Version) → p ≡ after_edits k first es → IsEditAt k es e → AreToCome first es
    → CountTouches k first es versions → Each (HasShiftOf (script_books first es)) (dues_of p e versions)
dues_have k p first es e versions is at h counts =
    let ts : List Touch = touches_of p e versions in
    let few : (n : ℕ) → (version_of versions n).rows + 1 < 2 ^ 32 = λ n.
    (let within : k < length es = is_within k es e at in
    let most : version touches_rows k first es n ≤ k = version_most touches_rows k first es n in
    let same : (version_of versions n).rows ≡ version touches_rows k first es n = ap (λ (v : Version). v.rows) (counts n) in
    let all : length es < 2 ^ 32 = h.few in omega (arith, within, most, same, all)) in
    from_touches (script_books first es) (shift_of p e (rows_version ts)) (has (shift_of p e (rows_version ts)) refl few) (view_of p) ts ts
  where
    has : (shift : Option Shift) → shift_of p e (rows_version (touches_of p e versions)) ≡ shift → ((n : ℕ) → (version_of versions n).rows + 1 < 2 ^ 32)
        → (bank : Bank) (t : Touch) → IsShiftOf (bank_book bank (script_books first es)) (carried bank t shift)
    has None q few bank t = tt
    has (Some s) q few bank t =
        let up : rows_version (touches_of p e versions) ≡ suc (version touches_rows k first es s.node) =
        shift_version p e versions s q few ∙ ap (λ (v : Version). suc v.rows) (counts s.node) in
        let there : shift_of (after_edits k first es) e (suc (version touches_rows k first es s.node)) ≡ Some s =
        ap₂ (λ (x : Program) (v : ℕ). shift_of x e v) (sym is) (sym up) ∙ q in
        carried_of (bank_book bank (script_books first es)) bank t s
        (subst (λ (x : Book). IsShift x (in_bank bank s)) (in_book bank first es) (shifts_are_the_books first es k e s bank h.program h.apply (h.widths (let within : k < length es = is_within k es e at in omega (arith, within))) at there))

-- ---- behind an edit
pub history_goes_on : (first : Program) (edits : List Edit) (came : ℕ) (p : Program) (e : Edit) (budget : Budget) (rest : List Edit) (old new : Working)
    → WorksOn p budget old → IsEdited p e old new → IsInHistory first edits came p (e ∷ rest) old.state → IsInHistory first edits (suc came) (after p e) rest new.state
history_goes_on first edits came p e budget rest old new w edited h =
    let at = edit_at came edits e rest h.left in
    let program : IsProgram p = subst IsProgram (sym h.program) (program_at came first edits h.to_come) in
    let applies : Applies p e = (is_to_come first edits came p (e ∷ rest) old.state h).apply.0 in
    record {
      to_come = h.to_come;
      program = ap (λ (q : Program). after q e) h.program ∙ sym (after_next came first edits e at.0);
      left = at.1;
      versions = subst (CountTouches (suc came) first edits) (sym edited.versions)
          (counts_behind came p first edits e old.state.versions h.program at.0 h.to_come.few program applies w.versions h.versions);
      made = all_made_behind (script_books first edits) (is_grown e) (after p e).nodes (dues_of p e old.state.versions) old.state.banks new.state
          (dues_have came p first edits e old.state.versions h.program at.0 h.to_come h.versions) h.made.0 edited.pools edited.reasons;
    }

-- ---- what follows
pub histories_make_sound : HistoriesMakeSound
histories_make_sound first edits came p rest s h = record {
  plain = each-map (λ pool made. pools_keep_what_is_made.sound (history run_kind.Cost first edits) (book run_kind.Cost first edits) pool
      (scripts_make_books run_kind.Cost first edits h.to_come.program h.to_come.apply) made) s.banks.plain h.made.0.plain;
  cone = each-map (λ pool made. pools_keep_what_is_made.sound (history run_kind.Recession first edits) (book run_kind.Recession first edits) pool
      (scripts_make_books run_kind.Recession first edits h.to_come.program h.to_come.apply) made) s.banks.cone h.made.0.cone;
}

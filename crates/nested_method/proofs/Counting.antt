-- The versions of nodes are how many edits touched them.
use Rattle.std.proofs.Common.{◌≡◌, ℕ, zero, suc, ◌+◌, ◌-◌, ◌<◌, ◌≤◌, ◌^◌, Bool, true, false, ◌&&◌, ◌||◌, eqb, List, [], ◌∷◌, ◌++◌, length, drop, replicate}
use Rattle.std.proofs.Common.{Option, refl, sym, ap, ap₂, subst, ◌∙◌, arith, eqb-true}
use Rattle.std.proofs.lemmas.Bool.{ne_eqb, eq-eqb}
use Rattle.std.proofs.lemmas.List.{get_or-set_same}
use Rattle.scen_defs.specs.Lists.{Each}
use Rattle.scen_defs.specs.Program.{Node, Program}
use Rattle.scen_defs.specs.Valid.{IsProgram}
use Rattle.cut_defs.specs.declared.kinds.Part.{Part}
use Rattle.cut_defs.specs.declared.kinds.Part.TheVariants.{Rows, Costs, Gone}
use Rattle.edit_defs.specs.declared.edit.Edit.{Edit}
use Rattle.edit_defs.specs.declared.edit.Touched.{Touched}
use Rattle.edit_defs.specs.After.{after, after_edits}
use Rattle.edit_defs.specs.Applies.{Applies}
use Rattle.edit_defs.specs.Data.{Test, one_if, version}
use Rattle.edit_defs.specs.Shifts.{IsEditAt}
use Rattle.edit_defs.specs.Touches.{is_rows, is_costs, any_touch, touches, touches_rows, touches_costs}
use Rattle.node_data.specs.declared.versions.Version.{Version}
use Rattle.node_data.specs.Counts.{raised, untouched, version_of}
use Rattle.pass_core.specs.Versions.{with_next, next_versions}
use Rattle.pass_core.proofs.MadeAfterEdits.{never_touched}
use Rattle.nested_method.specs.Edited.{is_grown, fit_versions, raised_versions}
use Rattle.nested_method.specs.Scripted.{CountTouches}
use Rattle.nested_method.proofs.Standing.{IsApart, others-stay, length-stays, stay, more, apart}

-- ---- the edits of a list
none_yet : (p : Program) (es : List Edit) → after_edits zero p es ≡ p
none_yet p [] = refl
none_yet p (e ∷ es) = refl

-- the edit behind the first k
pub after_next : (k : ℕ) (p : Program) (es : List Edit) (e : Edit) → IsEditAt k es e → after_edits (suc k) p es ≡ after (after_edits k p es) e
after_next k p [] e h = absurd h
after_next zero p (f ∷ es) e h = none_yet (after p f) es ∙ ap (after p) h
after_next (suc k) p (f ∷ es) e h = after_next k (after p f) es e h

-- is the first of those that are left
pub edit_at : (k : ℕ) (es : List Edit) (e : Edit) (rest : List Edit) → e ∷ rest ≡ drop k es → IsEditAt k es e × (rest ≡ drop (suc k) es)
edit_at zero [] e rest h = absurd (cc)
edit_at (suc k) [] e rest h = absurd (cc)
edit_at zero (f ∷ es) e rest h = let a : f ≡ e = cc in let b : rest ≡ es = cc in (a, b)
edit_at (suc k) (f ∷ es) e rest h = edit_at k es e rest h

pub is_within : (k : ℕ) (es : List Edit) (e : Edit) → IsEditAt k es e → k < length es
is_within k [] e h = absurd h
is_within zero (f ∷ es) e h = omega arith
is_within (suc k) (f ∷ es) e h = let l : k < length es = is_within k es e h in omega (arith, l)

-- ---- how many touched a node
no_version : (touched : Test) (p : Program) (es : List Edit) (n : ℕ) → version touched zero p es n ≡ 0
no_version touched p [] n = refl
no_version touched p (e ∷ es) n = refl

pub version_next : (touched : Test) (k : ℕ) (p : Program) (es : List Edit) (e : Edit) (n : ℕ) → IsEditAt k es e
    → version touched (suc k) p es n ≡ one_if (touched (after_edits k p es) e n) + version touched k p es n
version_next touched k p [] e n h = absurd h
version_next touched zero p (f ∷ es) e n h =
    let none : version touched zero (after p f) es n ≡ 0 = no_version touched (after p f) es n in
    let same : one_if (touched p f n) ≡ one_if (touched p e n) = ap (λ (x : Edit). one_if (touched p x n)) h in
    omega (arith, none, same)
version_next touched (suc k) p (f ∷ es) e n h =
    let next : version touched (suc k) (after p f) es n ≡ one_if (touched (after_edits k (after p f) es) e n) + version touched k (after p f) es n =
    version_next touched k (after p f) es e n h in
    omega (arith, next)

one_most : (b : Bool) → one_if b ≤ 1
one_most true = omega arith
one_most false = omega arith

pub version_most : (touched : Test) (k : ℕ) (p : Program) (es : List Edit) (n : ℕ) → version touched k p es n ≤ k
version_most touched k p [] n = omega arith
version_most touched zero p (e ∷ es) n = omega arith
version_most touched (suc k) p (e ∷ es) n =
    let rest : version touched k (after p e) es n ≤ k = version_most touched k (after p e) es n in
    let one : one_if (touched p e n) ≤ 1 = one_most (touched p e n) in
    omega (arith, rest, one)

-- ---- a part of a node, by the places that are touched
untold : (test : Part → Bool) (n : ℕ) (ts : List Touched) → Each (λ (u : Touched). n ≡ u.node → ⊥) ts → any_touch test n ts ≡ false
untold test n [] h = refl
untold test n (t ∷ ts) h = go (eqb t.node n) (ne_eqb t.node n (λ e. h.0 (sym e))) (untold test n ts h.1)
  where
    go : (b : Bool) → b ≡ false → any_touch test n ts ≡ false → (b && test t.part || any_touch test n ts) ≡ false
    go true e rest = absurd (let no : true ≡ false = e in cc)
    go false e rest = rest

module _ (test : Part → Bool) (field : Version → ℕ)
    (here : (part : Part) (n : ℕ) (vs : List Version) → n < length vs → field (version_of vs n) + 1 < 2 ^ 32
    → field (version_of (with_next part n vs) n) ≡ one_if (test part) + field (version_of vs n)) where
  pub rises : (n : ℕ) (ts : List Touched) (vs : List Version) → IsApart (length vs) ts → field (version_of vs n) + 1 < 2 ^ 32
      → field (version_of (next_versions ts vs) n) ≡ one_if (any_touch test n ts) + field (version_of vs n)
  rises n [] vs a few = omega arith
  rises n (t ∷ ts) vs a few = go (eqb t.node n) refl (λ less. rises n ts (with_next t.part t.node vs) (subst (λ (k : ℕ). IsApart k ts) (sym (length-stays t.part t.node vs)) a.2) less)
    where
      all : (b c : Bool) → c ≡ false → one_if (true && b || c) ≡ one_if b
      all true c e = refl
      all false c e = ap one_if e

      go : (b : Bool) → eqb t.node n ≡ b
          → (field (version_of (with_next t.part t.node vs) n) + 1 < 2 ^ 32
          → field (version_of (next_versions ts (with_next t.part t.node vs)) n) ≡ one_if (any_touch test n ts) + field (version_of (with_next t.part t.node vs) n))
          → field (version_of (next_versions ts (with_next t.part t.node vs)) n) ≡ one_if (b && test t.part || any_touch test n ts) + field (version_of vs n)
      go true e rest =
          let is : t.node ≡ n = eqb-true t.node n e in
          let off : Each (λ (u : Touched). n ≡ u.node → ⊥) ts = subst (λ (m : ℕ). Each (λ (u : Touched). m ≡ u.node → ⊥) ts) is a.1 in
          let same : field (version_of (next_versions ts (with_next t.part t.node vs)) n) ≡ field (version_of (with_next t.part n vs) n) =
          ap field (stay ts n (with_next t.part t.node vs) off ∙ ap (λ (m : ℕ). version_of (with_next t.part m vs) n) is) in
          let one : field (version_of (with_next t.part n vs) n) ≡ one_if (test t.part) + field (version_of vs n) =
          here t.part n vs (subst (λ (m : ℕ). m < length vs) is a.0) few in
          let told : one_if (true && test t.part || any_touch test n ts) ≡ one_if (test t.part) = all (test t.part) (any_touch test n ts) (untold test n ts off) in
          omega (arith, same, one, told)
      go false e rest =
          let ne : n ≡ t.node → ⊥ = λ q. (let no : true ≡ false = sym (eq-eqb t.node t.node refl) ∙ ap (λ (m : ℕ). eqb t.node m) (sym q) ∙ e in absurd (cc)) in
          let same : field (version_of (with_next t.part t.node vs) n) ≡ field (version_of vs n) = ap field (others-stay t.part t.node n vs ne) in
          let next = rest (omega (arith, same, few)) in
          omega (arith, same, next)

pub rows_here : (part : Part) (n : ℕ) (vs : List Version) → n < length vs → (version_of vs n).rows + 1 < 2 ^ 32
    → (version_of (with_next part n vs) n).rows ≡ one_if (is_rows part) + (version_of vs n).rows
rows_here Rows n vs l few = let e : (version_of (with_next Rows n vs) n).rows ≡ raised (version_of vs n).rows = ap (λ (v : Version). v.rows) (get_or-set_same vs n _ untouched l) in omega (arith, e, few)
rows_here Costs n vs l few = let e : (version_of (with_next Costs n vs) n).rows ≡ (version_of vs n).rows = ap (λ (v : Version). v.rows) (get_or-set_same vs n _ untouched l) in omega (arith, e)
rows_here Gone n vs l few = omega arith

pub costs_here : (part : Part) (n : ℕ) (vs : List Version) → n < length vs → (version_of vs n).costs + 1 < 2 ^ 32
    → (version_of (with_next part n vs) n).costs ≡ one_if (is_costs part) + (version_of vs n).costs
costs_here Rows n vs l few = let e : (version_of (with_next Rows n vs) n).costs ≡ (version_of vs n).costs = ap (λ (v : Version). v.costs) (get_or-set_same vs n _ untouched l) in omega (arith, e)
costs_here Costs n vs l few = let e : (version_of (with_next Costs n vs) n).costs ≡ raised (version_of vs n).costs = ap (λ (v : Version). v.costs) (get_or-set_same vs n _ untouched l) in omega (arith, e, few)
costs_here Gone n vs l few = omega arith

-- ---- behind an edit
more_untouched : (vs : List Version) (k n : ℕ) → version_of (vs ++ replicate k untouched) n ≡ version_of vs n
more_untouched [] k n = never_touched k n
more_untouched (v ∷ vs) k zero = refl
more_untouched (v ∷ vs) k (suc n) = more_untouched vs k n

pub fitted : (grows : Bool) (nodes : List (Option Node)) (vs : List Version) (n : ℕ) → version_of (fit_versions grows nodes vs) n ≡ version_of vs n
fitted true nodes vs n = more_untouched vs (length nodes - length vs) n
fitted false nodes vs n = refl

both : (v : Version) (rows costs : ℕ) → v.rows ≡ rows → v.costs ≡ costs → v ≡ record { rows = rows; costs = costs }
both v rows costs e f = ap₂ (λ (r c : ℕ). let x : Version = record { rows = r; costs = c } in x) e f

pub counts_behind : (k : ℕ) (p first : Program) (es : List Edit) (e : Edit) (versions : List Version) → p ≡ after_edits k first es → IsEditAt k es e → length es < 2 ^ 32
    → IsProgram p → Applies p e → length p.nodes ≤ length versions → CountTouches k first es versions → CountTouches (suc k) first es (raised_versions p e versions)
counts_behind k p first es e versions is at few i a long counts n =
    let ts : List Touched = touches p e in
    let far : IsApart (length versions) ts = more (length p.nodes) (length versions) ts long (apart p e i a) in
    let within : k < length es = is_within k es e at in
    let rows_most : version touches_rows k first es n ≤ k = version_most touches_rows k first es n in
    let costs_most : version touches_costs k first es n ≤ k = version_most touches_costs k first es n in
    let rows_are : (version_of versions n).rows ≡ version touches_rows k first es n = ap (λ (v : Version). v.rows) (counts n) in
    let costs_are : (version_of versions n).costs ≡ version touches_costs k first es n = ap (λ (v : Version). v.costs) (counts n) in
    let last : version_of (raised_versions p e versions) n ≡ version_of (next_versions ts versions) n = fitted (is_grown e) (after p e).nodes (next_versions ts versions) n in
    last ∙ both (version_of (next_versions ts versions) n) (version touches_rows (suc k) first es n) (version touches_costs (suc k) first es n)
    (rises is_rows (λ v. v.rows) rows_here n ts versions far (omega (arith, within, rows_most, rows_are, few))
    ∙ ap₂ (λ (x y : ℕ). x + y) (ap (λ (q : Program). one_if (touches_rows q e n)) is) rows_are ∙ sym (version_next touches_rows k first es e n at))
    (rises is_costs (λ v. v.costs) costs_here n ts versions far (omega (arith, within, costs_most, costs_are, few))
    ∙ ap₂ (λ (x y : ℕ). x + y) (ap (λ (q : Program). one_if (touches_costs q e n)) is) costs_are ∙ sym (version_next touches_costs k first es e n at))

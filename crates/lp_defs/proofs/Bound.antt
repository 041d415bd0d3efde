-- How many pivots a path has at most.
use Rattle.std.proofs.Common.{◌≡◌, ℕ, zero, suc, ◌+◌, ◌-◌, ◌*◌, ◌^◌, ◌<◌, ◌≤◌, Bool, true, false, Option, Some, None, List, [], ◌∷◌, ◌++◌, Ok, Err, length, refl, sym, ◌∙◌, subst, arith}
use Rattle.rationals.specs.Rational.{ℚ}
use Rattle.rationals.specs.Sparse.{Entry}
use Rattle.lp_defs.specs.Walks.{Walk}
use Rattle.lp_defs.specs.Path.{Row, Tableau, Candidate, Ending, Done, Open, TooLong, Stopped, entering, leaving, has_above_zero, pivoted, row_at, with_choice, with_value, at_limit, path}
use Rattle.lp_defs.specs.Ends.{IsChosen, IsChoice, EndsWell}
use Rattle.lp_defs.specs.Trace.{Stage, IsStep, Leads}
use Rattle.lp_defs.specs.Phases.{unit_rows, with_units, priced, has_artificial_above, replacing, Driven, Driven_out, Driven_long, Driven_stop, driven_by, driven_at, driven, first_duals}
use Rattle.lp_defs.specs.Program.{Program, IsProgram}
use Rattle.lp_defs.specs.Stages.{Three, all_columns, First, Second}
use Rattle.lp_defs.specs.Solution.{Solution, Nowhere, Cut_off, counted, first_rows, first_cost, first_end, second_end, between}
use Rattle.lp_defs.specs.Certificates.{PivotsAreBounded}
use Rattle.lp_defs.proofs.Choice.{leaving_is, Keeps, path_keeps}
use Rattle.lp_defs.proofs.Basic.{three_keep}
use Rattle.lp_defs.proofs.Settled.{pivot_long}
use Rattle.lp_defs.proofs.Twice.{no_basis_twice}
use Rattle.lp_defs.proofs.Starts.{length_with_units}
use Rattle.lp_defs.proofs.Ready.{first_begins, first_path, driving_begins, driven_well, EndsDriven, never_open, second_begins}
use Rattle.lp_defs.proofs.Count.{Differs, AllDiffer, AllUnder, at_most, code, code_under, same_code}

-- ---- the pivots of a path
record Chain (n : ℕ) (t u : Tableau) (count : ℕ) : Type 0 where
  stages : List Stage
  leads : Leads n t stages u
  long : length stages ≡ count

-- the pivots that lead to a path's end, k of them before
abbrev Chained : ℕ → ℕ → ℕ → Tableau → Ending → Type 0
Chained n left k t (Done last u) = (count : ℕ) × Chain n t u count × (last ≡ k + count) × (count ≤ left)
Chained n left k t (Open j u) = Unit {0}
Chained n left k t TooLong = (u : Tableau) × Chain n t u left
Chained n left k t (Stopped last p) = Unit {0}

no_pivot : (n : ℕ) (t : Tableau) → Chain n t t 0
no_pivot n t = record { stages = []; leads = refl; long = refl }

one_more : (n : ℕ) (t u v : Tableau) (j : ℕ) (c : Candidate) (count : ℕ) → entering n t.objective ≡ Some j → IsChosen j t.rows c → pivoted j c.index t ≡ Ok u → Chain n u v count → Chain n t v (suc count)
one_more n t u v j c count e m q h = record {
  stages = record { from = t; enters = j; leaves = c; to = u } ∷ h.stages;
  leads = (refl, record { enter = e; leave = m; pivot = q }, h.leads);
  long = let l : length h.stages ≡ count = h.long in omega arith;
}

chained_more : (n left k : ℕ) (t u : Tableau) (j : ℕ) (c : Candidate) (e : Ending) → entering n t.objective ≡ Some j → IsChosen j t.rows c → pivoted j c.index t ≡ Ok u → Chained n left (k + 1) u e → Chained n (suc left) k t e
chained_more n left k t u j c (Done last v) x m q h = (suc h.0, one_more n t u v j c h.0 x m q h.1, (let l : last ≡ (k + 1) + h.0 = h.2 in omega arith), (let l : h.0 ≤ left = h.3 in omega arith))
chained_more n left k t u j c (Open i v) x m q h = tt
chained_more n left k t u j c TooLong x m q h = (h.0, one_more n t u h.0 j c left x m q h.1)
chained_more n left k t u j c (Stopped last p) x m q h = tt

chained : (n left k : ℕ) (t : Tableau) → Chained n left k t (path n left k t)
chained n zero k t = go (entering n t.objective)
  where
    last : (j : ℕ) (b : Bool) → Chained n 0 k t (at_limit j t b)
    last j true = (t, no_pivot n t)
    last j false = tt

    go : (o : Option ℕ) → Chained n 0 k t (with_choice o (Done k t) (λ j. at_limit j t (has_above_zero j t.rows)))
    go None = (0, no_pivot n t, omega arith, omega arith)
    go (Some j) = last j (has_above_zero j t.rows)
chained n (suc left) k t = go (entering n t.objective) refl (chained n left (k + 1))
  where
    next : (j : ℕ) (c : Candidate) (w : Walk Tableau) → entering n t.objective ≡ Some j → IsChosen j t.rows c → pivoted j c.index t ≡ w → ((u : Tableau) → Chained n left (k + 1) u (path n left (k + 1) u))
        → Chained n (suc left) k t (with_value w (Stopped (k + 1)) (λ u. path n left (k + 1) u))
    next j c (Ok u) e m q ih = chained_more n left k t u j c (path n left (k + 1) u) e m q (ih u)
    next j c (Err p) e m q ih = tt

    found : (j : ℕ) (o : Option Candidate) → entering n t.objective ≡ Some j → IsChoice j t.rows o → ((u : Tableau) → Chained n left (k + 1) u (path n left (k + 1) u))
        → Chained n (suc left) k t (with_choice o (Open j t) (λ c. with_value (pivoted j c.index t) (Stopped (k + 1)) (λ u. path n left (k + 1) u)))
    found j None e m ih = tt
    found j (Some c) e m ih = next j c (pivoted j c.index t) e m refl ih

    leave : (j : ℕ) (w : Walk (Option Candidate)) → entering n t.objective ≡ Some j → leaving j t.rows 0 None ≡ w → ((u : Tableau) → Chained n left (k + 1) u (path n left (k + 1) u))
        → Chained n (suc left) k t (with_value w (Stopped (k + 1)) (λ o. with_choice o (Open j t) (λ c. with_value (pivoted j c.index t) (Stopped (k + 1)) (λ u. path n left (k + 1) u))))
    leave j (Ok o) e m ih = found j o e (leaving_is j t.rows o m) ih
    leave j (Err p) e m ih = tt

    go : (o : Option ℕ) → entering n t.objective ≡ o → ((u : Tableau) → Chained n left (k + 1) u (path n left (k + 1) u))
        → Chained n (suc left) k t (with_choice o (Done k t) (λ j. with_value (leaving j t.rows 0 None) (Stopped (k + 1)) (λ o. with_choice o (Open j t) (λ c. with_value (pivoted j c.index t) (Stopped (k + 1)) (λ u. path n left (k + 1) u)))))
    go None e ih = (0, no_pivot n t, omega arith, omega arith)
    go (Some j) e ih = leave j (leaving j t.rows 0 None) e refl ih

-- ---- the bases of a chain
abbrev codes : ℕ → List Stage → List ℕ
codes all [] = []
codes all (g ∷ gs) = code all g.to.rows ∷ codes all gs

codes_long : (all : ℕ) (gs : List Stage) → length (codes all gs) ≡ length gs
codes_long all [] = refl
codes_long all (g ∷ gs) = let k : length (codes all gs) ≡ length gs = codes_long all gs in omega arith

codes_under : (all : ℕ) (gs : List Stage) → AllUnder (2 ^ all) (codes all gs)
codes_under all [] = tt
codes_under all (g ∷ gs) = (code_under all g.to.rows, codes_under all gs)

leads_join : (n : ℕ) (t u v : Tableau) (a b : List Stage) → Leads n t a u → Leads n u b v → Leads n t (a ++ b) v
leads_join n t u v [] b l m = subst (λ (x : Tableau). Leads n x b v) (sym l) m
leads_join n t u v (g ∷ a) b l m = (l.0, l.1, leads_join n g.to u v a b l.2 m)

-- each stage of a chain keeps the tableau in order
stage_three : (n all : ℕ) (cost : List Entry) (rows : List Row) (g : Stage) → n ≤ all → IsStep n g → Three all cost rows g.from → Three all cost rows g.to
stage_three n all cost rows g le s h = three_keep n all cost rows le g.from g.to g.enters g.leaves h s.enter s.leave s.pivot

-- none of the stages behind a chain from t leads back to the basis of t
no_return : (n all : ℕ) (cost : List Entry) (rows : List Row) (t u v : Tableau) (g : Stage) (a b : List Stage) → n ≤ all → Three all cost rows t → Three all cost rows u → Leads n t (g ∷ a) u → Leads n u b v → Differs (code all t.rows) (codes all b)
no_return n all cost rows t u v g a [] le ht hu l m = tt
no_return n all cost rows t u v g a (x ∷ b) le ht hu l m =
    let hf : Three all cost rows x.from = subst (Three all cost rows) (sym m.0) hu in
    let hx : Three all cost rows x.to = stage_three n all cost rows x le m.1 hf in
    let one : Leads n t (g ∷ a ++ x ∷ []) x.to = leads_join n t u x.to (g ∷ a) (x ∷ []) l (m.0, m.1, refl) in (
      (λ e. no_basis_twice cost rows n t x.to g (a ++ x ∷ []) ht.0 ht.1 one (same_code all t.rows x.to.rows hx.2 (sym e)) (same_code all x.to.rows t.rows ht.2 e)),
      no_return n all cost rows t x.to v g (a ++ x ∷ []) b le ht hx one m.2,
    )

-- nor does the first stage
no_stay : (n all : ℕ) (cost : List Entry) (rows : List Row) (t u : Tableau) (gs : List Stage) → n ≤ all → Three all cost rows t → Leads n t gs u → Differs (code all t.rows) (codes all gs)
no_stay n all cost rows t u [] le h l = tt
no_stay n all cost rows t u (g ∷ gs) le h l =
    let hg : Three all cost rows g.to = stage_three n all cost rows g le l.1 (subst (Three all cost rows) (sym l.0) h) in (
      (λ e. no_basis_twice cost rows n t g.to g [] h.0 h.1 (l.0, l.1, refl) (same_code all t.rows g.to.rows hg.2 (sym e)) (same_code all g.to.rows t.rows h.2 e)),
      no_return n all cost rows t g.to u g [] gs le h hg (l.0, l.1, refl) l.2,
    )

all_apart : (n all : ℕ) (cost : List Entry) (rows : List Row) (t u : Tableau) (gs : List Stage) → n ≤ all → Three all cost rows t → Leads n t gs u → AllDiffer (codes all gs)
all_apart n all cost rows t u [] le h l = tt
all_apart n all cost rows t u (g ∷ gs) le h l =
    let hg : Three all cost rows g.to = stage_three n all cost rows g le l.1 (subst (Three all cost rows) (sym l.0) h) in
    (no_stay n all cost rows g.to u gs le hg l.2, all_apart n all cost rows g.to u gs le hg l.2)

-- a path within a phase has fewer pivots than there are sets of columns
few_pivots : (n all : ℕ) (cost : List Entry) (rows : List Row) (t u : Tableau) (count : ℕ) → n ≤ all → Three all cost rows t → Chain n t u count → count < 2 ^ all
few_pivots n all cost rows t u count le h ch =
    let k : length (code all t.rows ∷ codes all ch.stages) ≤ 2 ^ all = at_most (2 ^ all) (code all t.rows ∷ codes all ch.stages) (code_under all t.rows, codes_under all ch.stages)
    (no_stay n all cost rows t u ch.stages le h ch.leads, all_apart n all cost rows t u ch.stages le h ch.leads) in
    let l : length (codes all ch.stages) ≡ length ch.stages = codes_long all ch.stages in
    let m : length ch.stages ≡ count = ch.long in
    omega arith

-- ---- how many rows there are
long_keeps : (n m : ℕ) → Keeps (λ t. length t.rows ≡ m) n
long_keeps n m t u j c h e k q = pivot_long j c.index t u k.within q ∙ h

first_rows_long : (j : ℕ) (rows : List (List Entry)) (right : List ℚ) → length right ≡ length rows → length (unit_rows j rows right) ≡ length rows
first_rows_long j [] right h = refl
first_rows_long j (f ∷ rows) [] h = absurd (omega arith)
first_rows_long j (f ∷ rows) (b ∷ right) h = let k : length (unit_rows (suc j) rows right) ≡ length rows = first_rows_long (suc j) rows right (omega arith) in omega arith

-- ---- the pivots on artificial columns that are left
abbrev FewDriven : ℕ → ℕ → Driven → Type 0
FewDriven k rows (Driven_out last u) = last ≤ k + rows
FewDriven k rows Driven_long = ⊥
FewDriven k rows (Driven_stop last p) = Unit {0}

few_later : (k l rows : ℕ) (d : Driven) → l ≤ k + 1 → FewDriven l rows d → FewDriven k (suc rows) d
few_later k l rows (Driven_out last u) h f = omega arith
few_later k l rows Driven_long h f = f
few_later k l rows (Driven_stop last p) h f = tt

few_driven : (n rows i left k : ℕ) (t : Tableau) → rows ≤ left → FewDriven k rows (driven n rows i left k t)
few_driven n zero i left k t h = omega arith
few_driven n (suc rows) i left k t h = go left h (replacing n (row_at t.rows i)) (few_driven n rows (i + 1))
  where
    next : (left : ℕ) (w : Walk Tableau) → rows ≤ left → ((left k : ℕ) (t : Tableau) → rows ≤ left → FewDriven k rows (driven n rows (i + 1) left k t)) → FewDriven k (suc rows) (driven_by (k + 1) w (λ u. driven n rows (i + 1) left (k + 1) u))
    next left (Ok u) h ih = few_later k (k + 1) rows (driven n rows (i + 1) left (k + 1) u) (omega arith) (ih left (k + 1) u h)
    next left (Err p) h ih = tt

    go : (left : ℕ) → suc rows ≤ left → (o : Option ℕ) → ((left k : ℕ) (t : Tableau) → rows ≤ left → FewDriven k rows (driven n rows (i + 1) left k t)) → FewDriven k (suc rows) (driven_at i left k t o (driven n rows (i + 1)))
    go left h None ih = few_later k k rows (driven n rows (i + 1) left k t) (omega arith) (ih left k t (omega arith))
    go zero h (Some j) ih = absurd (omega arith)
    go (suc left) h (Some j) ih = next left (pivoted j i t) (omega arith) ih

-- ---- the whole path
abbrev sets : Program → ℕ
sets p = 2 ^ (p.columns + length p.rows)

module _ (p : Program) (is : IsProgram p) where
  second_goes : (pivots k : ℕ) (t : Tableau) → Second p t → sets p ≤ pivots - k → (e : Ending) → Chained p.columns (pivots - k) k t e → second_end p e ≡ Cut_off → ⊥
  second_goes pivots k t s h (Done last u) ch e = cc
  second_goes pivots k t s h (Open j u) ch e = cc
  second_goes pivots k t s h TooLong ch e =
      let f : pivots - k < 2 ^ all_columns p = few_pivots p.columns (all_columns p) p.cost (first_rows p) t ch.0 (pivots - k) (omega arith) s.three ch.1 in
      omega arith
  second_goes pivots k t s h (Stopped last o) ch e = cc

  between_goes : (pivots : ℕ) (d : Driven) → EndsDriven p d → (k : ℕ) → FewDriven k (length p.rows) d → sets p ≤ pivots - (k + length p.rows) → between p pivots d ≡ Cut_off → ⊥
  between_goes pivots (Driven_out last u) w k f h e = go (priced p.cost u.rows p.cost) refl e
    where
      go : (v : Walk (List Entry)) → priced p.cost u.rows p.cost ≡ v → counted last v (λ o. second_end p (path p.columns (pivots - last) last (record { rows = u.rows; objective = o }))) ≡ Cut_off → ⊥
      go (Ok o) q e = second_goes pivots last (record { rows = u.rows; objective = o }) (second_begins p u o is w q) (omega arith) (path p.columns (pivots - last) last (record { rows = u.rows; objective = o })) (chained p.columns (pivots - last) last (record { rows = u.rows; objective = o })) e
      go (Err o) q e = cc
  between_goes pivots Driven_long w k f h e = f
  between_goes pivots (Driven_stop last o) w k f h e = cc

  first_goes : (pivots : ℕ) (t : Tableau) → First p t → length t.rows ≡ length p.rows → 2 * sets p + length p.rows ≤ pivots → (e : Ending) → EndsWell (First p) p.columns e → EndsWell (λ u. length u.rows ≡ length p.rows) p.columns e → Chained p.columns pivots 0 t e
      → first_end p pivots e ≡ Cut_off → ⊥
  first_goes pivots t s long h (Done last u) w v ch e = go (has_artificial_above p.columns u.rows) refl e
    where
      duals : (x : Walk (List ℚ)) → counted last x Nowhere ≡ Cut_off → ⊥
      duals (Ok y) e = cc
      duals (Err o) e = cc

      go : (b : Bool) → has_artificial_above p.columns u.rows ≡ b
          → ◌≡◌ {A = Solution} (elim b [ true ↦ counted last (first_duals p.columns (length p.rows) u.objective []) Nowhere | false ↦ between p pivots (driven p.columns (length u.rows) 0 (pivots - last) last u) ]) Cut_off → ⊥
      go true q e = duals (first_duals p.columns (length p.rows) u.objective []) e
      go false q e =
          let f : ch.0 < 2 ^ all_columns p = few_pivots p.columns (all_columns p) (first_cost p) (first_rows p) t u ch.0 (omega arith) s ch.1 in
          let l : last ≡ 0 + ch.0 = ch.2 in
          let m : length u.rows ≡ length p.rows = v.0 in
          let few : FewDriven last (length p.rows) (driven p.columns (length u.rows) 0 (pivots - last) last u) = subst (λ (x : ℕ). FewDriven last x (driven p.columns (length u.rows) 0 (pivots - last) last u)) m (few_driven p.columns (length u.rows) 0 (pivots - last) last u (omega arith)) in
          between_goes pivots (driven p.columns (length u.rows) 0 (pivots - last) last u) (driven_well p (pivots - last) last u (driving_begins p u w.0 q)) last few (omega arith) e
  first_goes pivots t s long h (Open j u) w v ch e = never_open p j u w.0 w.1 w.2
  first_goes pivots t s long h TooLong w v ch e =
      let f : pivots < 2 ^ all_columns p = few_pivots p.columns (all_columns p) (first_cost p) (first_rows p) t ch.0 pivots (omega arith) s ch.1 in
      omega arith
  first_goes pivots t s long h (Stopped last o) w v ch e = cc

pub pivots_are_bounded : PivotsAreBounded
pivots_are_bounded p pivots is h e = go (priced (first_cost p) (first_rows p) (first_cost p)) refl e
  where
    go : (w : Walk (List Entry)) → priced (first_cost p) (first_rows p) (first_cost p) ≡ w → counted 0 w (λ o. first_end p pivots (path p.columns pivots 0 (record { rows = first_rows p; objective = o }))) ≡ Cut_off → ⊥
    go (Ok o) q e =
        let s : First p (record { rows = first_rows p; objective = o }) = first_begins p o is q in
        let l : length (first_rows p) ≡ length p.rows = first_rows_long p.columns (with_units p.columns p.rows) p.right (is.one_each ∙ sym (length_with_units p.columns p.rows)) ∙ length_with_units p.columns p.rows in
        first_goes p is pivots (record { rows = first_rows p; objective = o }) s l h (path p.columns pivots 0 (record { rows = first_rows p; objective = o })) (first_path p pivots 0 (record { rows = first_rows p; objective = o }) s)
        (path_keeps (λ u. length u.rows ≡ length p.rows) p.columns (long_keeps p.columns (length p.rows)) pivots 0 (record { rows = first_rows p; objective = o }) l)
        (chained p.columns pivots 0 (record { rows = first_rows p; objective = o })) e
    go (Err o) q e = cc

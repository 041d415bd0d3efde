-- What the walk of a repair comes to.
use Rattle.std.proofs.Common.{◌≡◌, ℕ, suc, ◌+◌, ◌-◌, ◌<◌, ◌≤◌, Bool, true, false, ◌&&◌, ◌||◌, eqb, ltb, List, [], ◌∷◌, ◌++◌, length, drop, get_or, Result, Ok, refl, sym, ap, ap₂, subst, ◌∙◌, arith, eqb-true}
use Rattle.std.proofs.lemmas.Bool.{eqb-false, ltb-true, ltb-false, and_parts}
use Rattle.rationals.specs.Rational.{ℚ, zero_ℚ, one_ℚ, ◌+ℚ◌, ◌-ℚ◌, ◌*ℚ◌, by_eqs, by_ring, terms, add_zero_ℚ}
use Rattle.rationals.specs.Ring.Eqs.{done, by_eq}
use Rattle.rationals.specs.Order.{same}
use Rattle.rationals.specs.OrderLaws.{same_means}
use Rattle.rationals.specs.declared.Op.TheVariants.{Add, Sub}
use Rattle.rationals.specs.Passes.{Operation, sub_walk, add_product_walk, then_walk}
use Rattle.rationals.specs.Sparse.{coefficient, value_if}
use Rattle.rationals.proofs.WalkLaws.{walk_value, step_value, ended, product_from-ends}
use Rattle.rationals.specs.Choices.{pick}
use Rattle.cut_defs.specs.declared.kinds.CutKind.{CutKind}
use Rattle.cut_defs.specs.declared.kinds.CutKind.TheVariants.{Bound, Ray}
use Rattle.cut_defs.specs.declared.kinds.Part.TheVariants.{Rows, Costs, Gone}
use Rattle.cut_defs.specs.declared.versions.Shift.{Shift}
use Rattle.cut_defs.specs.declared.versions.Touch.{Touch}
use Rattle.cut_defs.specs.Stored.{Source, Stored, StoredUses, constant_of}
use Rattle.cut_defs.specs.Stored.Stored.{Stored_of}
use Rattle.cut_defs.specs.Stored.StoredUses.{No_stored, Use_stored}
use Rattle.cut_defs.specs.Repairs.{is_moved, moved_source, own_change, repair, repairs, changes}
use Rattle.cut_defs.specs.Support.{own_by, own_stamps, stamp_rests, any_rests, cut_rests, reaches, any_reaches}
use Rattle.cut_defs.specs.Stored.{uses_of}
use Rattle.cut_defs.proofs.Merges.{neither}
use Rattle.cut_defs.proofs.Supports.{supports_are_exact}
use Rattle.std.proofs.Common.{zero, add-one, drop-cons}
use Rattle.cut_proof.specs.declared.cut.Used.{Used}
use Rattle.cut_proof.specs.View.{uses_content, stored_size, uses_size}
use Rattle.cut_defs.specs.declared.kinds.Part.{Part}
use Rattle.cut_defs.specs.Support.{rests_by}
use Rattle.cut_defs.specs.Stored.{form_of, IsMadeFor}
use Rattle.cut_defs.proofs.Repairs.{repairs_are_made}
use Rattle.cut_proof.specs.Laws.{RepairLaws, ValueLaw}
use Rattle.cut_proof.specs.Repairing.{touch_of, touch_before, own_walk, change_step, changes_from, snoc, repair_walk, repairs_from}

-- ---- uses one after another
unfoldable uses_append : StoredUses → StoredUses → StoredUses
uses_append No_stored vs = vs
uses_append (Use_stored w c us) vs = Use_stored w c (uses_append us vs)

append_snoc : (us : StoredUses) (w : ℚ) (c : Stored) (vs : StoredUses) → uses_append (snoc us w c) vs ≡ uses_append us (Use_stored w c vs)
unfolding uses_append
append_snoc No_stored w c vs = refl
append_snoc (Use_stored v d us) w c vs = ap (λ x. Use_stored v d x) (append_snoc us w c vs)

append_none : (us : StoredUses) → uses_append us No_stored ≡ us
unfolding uses_append
append_none No_stored = refl
append_none (Use_stored v d us) = ap (λ x. Use_stored v d x) (append_none us)

-- ---- a cut that doesn't rest on the shift's touch is its own repair
own_not_moved : (s : Shift) (source : Source) (rest : Bool) → (stamp_rests (record { node = source.node; part = Rows; version = source.rows_version }) (touch_of s) || rest) ≡ false → is_moved s source ≡ false
own_not_moved s source rest e = go (is_moved s source) refl
  where
    go : (b : Bool) → is_moved s source ≡ b → is_moved s source ≡ false
    go false p = p
    go true p =
        let q = and_parts (eqb source.node s.node) (eqb (suc source.rows_version) s.version) p in
        let v : suc source.rows_version ≡ s.version = eqb-true (suc source.rows_version) s.version q.1 in
        let n = neither (stamp_rests (record { node = source.node; part = Rows; version = source.rows_version }) (touch_of s)) rest e in
        let r : (eqb source.node s.node && ltb source.rows_version s.version) ≡ true = ap₂ ◌&&◌ q.0 (less source.rows_version s.version (omega arith)) in
        absurd (let z : true ≡ false = sym r ∙ n.0 in cc)
      where
        less : (a b : ℕ) → a < b → ltb a b ≡ true
        less a b l = step (ltb a b) refl
          where
            step : (t : Bool) → ltb a b ≡ t → ltb a b ≡ true
            step true p = p
            step false p = absurd (omega (arith, ltb-false a b p))

not_moved : (s : Shift) (source : Source) (kind : CutKind) → any_rests (own_by kind source) (touch_of s) ≡ false → is_moved s source ≡ false
not_moved s source Bound e = own_not_moved s source _ e
not_moved s source Ray e = own_not_moved s source _ e

same_number : (a : ℚ) → same a a ≡ true
same_number a = (same_means a a).1 refl

no_change : (c : ℚ) (us : StoredUses) → changes_from c us us ≡ Ok c
no_change c No_stored = refl
no_change c (Use_stored w cut us) = ap (λ b. then_walk (change_step b c w (constant_of cut) (constant_of cut)) (λ t. changes_from t us us)) (same_number (constant_of cut)) ∙ no_change c us

mutual
  unfolding uses_append

  still : (s : Shift) (cut : Stored) → reaches cut (touch_of s) ≡ false → repair_walk s cut ≡ Ok cut
  still s (Stored_of source uses constant form) e =
      let n = neither (any_rests (own_stamps source) (touch_of s)) (any_reaches uses (touch_of s)) e in
      let m : is_moved s source ≡ false = not_moved s source source.kind n.0 in
      ap (λ r. then_walk r (λ us. then_walk (own_walk s source constant) (λ c. then_walk (changes_from c uses us) (λ d. Ok (Stored_of (moved_source s source) us d form))))) (all_still s No_stored uses n.1)
      ∙ ap (λ b. then_walk (pick b (add_product_walk constant (coefficient source.multipliers s.row) s.by) (Ok constant)) (λ c. then_walk (changes_from c uses uses) (λ d. Ok (Stored_of (moved_source s source) uses d form)))) m
      ∙ ap (λ r. then_walk r (λ d. Ok (Stored_of (moved_source s source) uses d form))) (no_change constant uses)
      ∙ ap (λ b. Ok (Stored_of (elim b [ true ↦ record source { rows_version = s.version } | false ↦ source ]) uses constant form)) m

  all_still : (s : Shift) (before uses : StoredUses) → any_reaches uses (touch_of s) ≡ false → repairs_from s before uses ≡ Ok (uses_append before uses)
  all_still s before No_stored e = ap Ok (sym (append_none before))
  all_still s before (Use_stored w cut uses) e =
      let n = neither (reaches cut (touch_of s)) (any_reaches uses (touch_of s)) e in
      ap (λ r. then_walk r (λ c. repairs_from s (snoc before w c) uses)) (still s cut n.0) ∙ all_still s (snoc before w cut) uses n.1 ∙ ap Ok (append_snoc before w cut uses)

pub untouched_is_still : (s : Shift) (cut seen : Stored) (t : Touch) → seen ≡ cut → t ≡ touch_of s → cut_rests seen t ≡ false → repair_walk s cut ≡ Ok cut
untouched_is_still s cut seen t e u h = still s cut (sym (supports_are_exact.rests cut (touch_of s)) ∙ sym (ap₂ cut_rests e u) ∙ h)

-- ---- steps of the loop
pub child_falls : (cut : Stored) (us items : List Used) (i : ℕ) (u : Used) → items ≡ us → uses_content us ≡ uses_of cut → i < length items → u ≡ get_or items i u → stored_size u.cut < stored_size cut
child_falls (Stored_of s uses c f) us items i u e q h r =
    let m : stored_size u.cut < uses_size (uses_content items) + 1 = member items i u h r in
    subst (λ x. stored_size u.cut < uses_size x + 1) (ap uses_content e ∙ q) m
  where
    member : (xs : List Used) (i : ℕ) (u : Used) → i < length xs → u ≡ get_or xs i u → stored_size u.cut < uses_size (uses_content xs) + 1
    member [] i u h r = absurd (omega arith)
    member (x ∷ xs) zero u h r = let z : stored_size u.cut ≡ stored_size x.cut = ap (λ (y : Used). stored_size y.cut) r in omega arith
    member (x ∷ xs) (suc i) u h r = omega (arith, member xs i u (omega arith) r)

pub content_snoc : (xs : List Used) (u : Used) → uses_content (xs ++ u ∷ []) ≡ snoc (uses_content xs) u.weight u.cut
content_snoc [] u = refl
content_snoc (x ∷ xs) u = ap (λ r. Use_stored x.weight x.cut r) (content_snoc xs u)

read : (xs : List Used) (i : ℕ) (u : Used) → i < length xs → u ≡ get_or xs i u → drop i xs ≡ u ∷ drop (i + 1) xs
read xs i u h e = rw (add-one i) (drop-cons xs i u h ∙ ap (λ d. d ∷ drop (suc i) xs) (sym e))

pub repair_next : (s : Shift) (xs items : List Used) (i : ℕ) (u : Used) (new : Stored) (all all2 : List Used) (whole : Result StoredUses Operation) → items ≡ xs → i < length items → u ≡ get_or items i u → all2 ≡ all ++ record { weight = u.weight; cut = new } ∷ [] → repair_walk s u.cut ≡ Ok new
    → repairs_from s (uses_content all) (uses_content (drop i xs)) ≡ whole → repairs_from s (uses_content all2) (uses_content (drop (i + 1) xs)) ≡ whole
repair_next s xs items i u new all all2 whole e h r a w kept =
    let d : drop i xs ≡ u ∷ drop (i + 1) xs = ap (drop i) (sym e) ∙ read items i u h r ∙ ap (λ l. u ∷ drop (i + 1) l) e in
    ap (λ l. repairs_from s (uses_content l) (uses_content (drop (i + 1) xs))) a
    ∙ ap (λ l. repairs_from s l (uses_content (drop (i + 1) xs))) (content_snoc all (record { weight = u.weight; cut = new }))
    ∙ sym (ap (λ q. then_walk q (λ c. repairs_from s (snoc (uses_content all) u.weight c) (uses_content (drop (i + 1) xs)))) w)
    ∙ sym (ap (λ l. repairs_from s (uses_content all) (uses_content l)) d) ∙ kept

-- ---- the walk comes to the repair
change_ends : (b : Bool) (sum w new old q : ℚ) → same new old ≡ b → change_step b sum w new old ≡ Ok q → q ≡ sum +ℚ w *ℚ (new -ℚ old)
change_ends true sum w new old q p e =
    let d : q ≡ sum = cc in
    let n : new ≡ old = (same_means new old).0 p in
    let r : w *ℚ (old -ℚ old) ≡ zero_ℚ = by_ring (w ∷ old ∷ []) (search terms depth 40) tt in
    let z : w *ℚ (new -ℚ old) ≡ zero_ℚ = ap (λ x. w *ℚ (x -ℚ old)) n ∙ r in
    d ∙ sym (ap (λ x. sum +ℚ x) z ∙ add_zero_ℚ sum)
change_ends false sum w new old q p e =
    let one = ended (sub_walk new old) (λ d. add_product_walk sum w d) q e in
    step_value Add sum w one.result q one.next_is ∙ ap (λ d. sum +ℚ w *ℚ d) (walk_value Sub new old one.result one.first_is)

changes_end : (s : Shift) (sum : ℚ) (uses : StoredUses) (q : ℚ) → changes_from sum uses (repairs s uses) ≡ Ok q → q ≡ sum +ℚ changes s uses
changes_end s sum No_stored q e = let d : q ≡ sum = cc in d ∙ sym (add_zero_ℚ sum)
changes_end s sum (Use_stored w cut uses) q e =
    let one = ended (change_step (same (constant_of (repair s cut)) (constant_of cut)) sum w (constant_of (repair s cut)) (constant_of cut)) (λ t. changes_from t uses (repairs s uses)) q e in
    let a : one.result ≡ sum +ℚ w *ℚ (constant_of (repair s cut) -ℚ constant_of cut) = change_ends (same (constant_of (repair s cut)) (constant_of cut)) sum w (constant_of (repair s cut)) (constant_of cut) one.result refl one.first_is in
    let i : q ≡ one.result +ℚ changes s uses = changes_end s one.result uses q one.next_is in
    by_eqs (q ∷ sum ∷ one.result ∷ w *ℚ (constant_of (repair s cut) -ℚ constant_of cut) ∷ changes s uses ∷ []) (by_eq one_ℚ i (by_eq one_ℚ a done)) (search terms depth 40) tt

own_ends : (s : Shift) (source : Source) (constant q : ℚ) → own_walk s source constant ≡ Ok q → q ≡ constant +ℚ own_change s source
own_ends s source constant q e = go (is_moved s source) e
  where
    go : (b : Bool) → pick b (add_product_walk constant (coefficient source.multipliers s.row) s.by) (Ok constant) ≡ Ok q → q ≡ constant +ℚ value_if b (coefficient source.multipliers s.row *ℚ s.by)
    go true e = step_value Add constant (coefficient source.multipliers s.row) s.by q e
    go false e = let d : q ≡ constant = cc in d ∙ sym (add_zero_ℚ constant)

mutual
  unfolding uses_append

  pub repair_ends : (s : Shift) (cut r : Stored) → repair_walk s cut ≡ Ok r → r ≡ repair s cut
  repair_ends s (Stored_of source uses constant form) r e =
      let one = ended (repairs_from s No_stored uses) (λ us. then_walk (own_walk s source constant) (λ c. then_walk (changes_from c uses us) (λ d. Ok (Stored_of (moved_source s source) us d form)))) r e in
      let two = ended (own_walk s source constant) (λ c. then_walk (changes_from c uses one.result) (λ d. Ok (Stored_of (moved_source s source) one.result d form))) r one.next_is in
      let three = ended (changes_from two.result uses one.result) (λ d. Ok (Stored_of (moved_source s source) one.result d form)) r two.next_is in
      let us : one.result ≡ repairs s uses = repairs_end s No_stored uses one.result one.first_is in
      let c : three.result ≡ two.result +ℚ changes s uses = changes_end s two.result uses three.result (subst (λ vs. changes_from two.result uses vs ≡ Ok three.result) us three.first_is) in
      let o : two.result ≡ constant +ℚ own_change s source = own_ends s source constant two.result two.first_is in
      let q : r ≡ Stored_of (moved_source s source) one.result three.result form = let k : ◌≡◌ {A = Result Stored Operation} (Ok (Stored_of (moved_source s source) one.result three.result form)) (Ok r) = three.next_is in cc in
      q ∙ ap₂ (λ vs d. Stored_of (moved_source s source) vs d form) us (c ∙ ap (λ z. z +ℚ changes s uses) o)

  repairs_end : (s : Shift) (before uses us : StoredUses) → repairs_from s before uses ≡ Ok us → us ≡ uses_append before (repairs s uses)
  repairs_end s before No_stored us e = let d : us ≡ before = cc in d ∙ sym (append_none before)
  repairs_end s before (Use_stored w cut uses) us e =
      let one = ended (repair_walk s cut) (λ c. repairs_from s (snoc before w c) uses) us e in
      repairs_end s (snoc before w one.result) uses us one.next_is ∙ append_snoc before w one.result (repairs s uses) ∙ ap (λ c. uses_append before (Use_stored w c (repairs s uses))) (repair_ends s cut one.result one.first_is)

-- ---- what a repair rests on
or_holds : (a b x y : Bool) → (a ≡ true → x ≡ true) → (b ≡ true → y ≡ true) → (a || b) ≡ true → (x || y) ≡ true
or_holds true b x y f g e = ap (λ z. z || y) (f refl)
or_holds false b x y f g e = ap (λ z. x || z) (g e) ∙ one x
  where
    one : (c : Bool) → (c || true) ≡ true
    one true = refl
    one false = refl

or_none : (a b : Bool) → a ≡ false → b ≡ false → (a || b) ≡ false
or_none a b p q = ap₂ ◌||◌ p q

less_true : (a b : ℕ) → a < b → ltb a b ≡ true
less_true a b l = step (ltb a b) refl
  where
    step : (t : Bool) → ltb a b ≡ t → ltb a b ≡ true
    step true p = p
    step false p = absurd (omega (arith, ltb-false a b p))

less_false : (a b : ℕ) → b ≤ a → ltb a b ≡ false
less_false a b l = step (ltb a b) refl
  where
    step : (t : Bool) → ltb a b ≡ t → ltb a b ≡ false
    step true p = absurd (omega (arith, ltb-true a b p))
    step false p = p

and_no : (a : Bool) → (a && false) ≡ false
and_no true = refl
and_no false = refl

-- a stamp whose version rose rests on no more touches
later_rests : (node old new : ℕ) (u : Touch) → old ≤ new → stamp_rests (record { node = node; part = Rows; version = new }) u ≡ true → stamp_rests (record { node = node; part = Rows; version = old }) u ≡ true
later_rests node old new u l e = go u.part refl (and_parts (eqb node u.node) (rests_by u.part (record { node = node; part = Rows; version = new }) u.version) e)
  where
    go : (p : Part) → u.part ≡ p → (eqb node u.node ≡ true) × (rests_by u.part (record { node = node; part = Rows; version = new }) u.version ≡ true) → (eqb node u.node && rests_by u.part (record { node = node; part = Rows; version = old }) u.version) ≡ true
    go Rows q h =
        let k : ltb new u.version ≡ true = sym (ap (λ x. rests_by x (record { node = node; part = Rows; version = new }) u.version) q) ∙ h.1 in
        ap₂ ◌&&◌ h.0 (ap (λ x. rests_by x (record { node = node; part = Rows; version = old }) u.version) q ∙ less_true old u.version (omega (arith, ltb-true new u.version k)))
    go Costs q h = absurd (let k : false ≡ true = sym (ap (λ x. rests_by x (record { node = node; part = Rows; version = new }) u.version) q) ∙ h.1 in cc)
    go Gone q h = ap₂ ◌&&◌ h.0 (ap (λ x. rests_by x (record { node = node; part = Rows; version = old }) u.version) q)

own_rests : (s : Shift) (source : Source) (u : Touch) → any_rests (own_stamps (moved_source s source)) u ≡ true → any_rests (own_stamps source) u ≡ true
own_rests s source u e = go (is_moved s source) refl e
  where
    by_kind : (k : CutKind) → source.rows_version ≤ s.version → any_rests (own_by k (record source { rows_version = s.version })) u ≡ true → any_rests (own_by k source) u ≡ true
    by_kind Bound l e = or_holds _ _ _ _ (later_rests source.node source.rows_version s.version u l) (λ x. x) e
    by_kind Ray l e = or_holds _ _ _ _ (later_rests source.node source.rows_version s.version u l) (λ x. x) e

    go : (b : Bool) → is_moved s source ≡ b → any_rests (own_stamps (elim b [ true ↦ record source { rows_version = s.version } | false ↦ source ])) u ≡ true → any_rests (own_stamps source) u ≡ true
    go false p e = e
    go true p e = let v : suc source.rows_version ≡ s.version = eqb-true (suc source.rows_version) s.version (and_parts (eqb source.node s.node) (eqb (suc source.rows_version) s.version) p).1 in by_kind source.kind (omega arith) e

mutual
  repair_rests : (s : Shift) (u : Touch) (cut : Stored) → reaches (repair s cut) u ≡ true → reaches cut u ≡ true
  repair_rests s u (Stored_of source uses constant form) e = or_holds _ _ _ _ (own_rests s source u) (repairs_rest s u uses) e

  repairs_rest : (s : Shift) (u : Touch) (uses : StoredUses) → any_reaches (repairs s uses) u ≡ true → any_reaches uses u ≡ true
  repairs_rest s u No_stored e = e
  repairs_rest s u (Use_stored w cut uses) e = or_holds _ _ _ _ (repair_rests s u cut) (repairs_rest s u uses) e

-- the rows' stamp of a record that has no older version than the one before the shift's
rows_fresh : (s : Shift) (node version : ℕ) → (eqb node s.node && ltb version (s.version - 1)) ≡ false → (eqb node s.node && eqb (suc version) s.version) ≡ false → (eqb node s.node && ltb version s.version) ≡ false
rows_fresh s node version e m = go (eqb node s.node) e m
  where
    go : (b : Bool) → (b && ltb version (s.version - 1)) ≡ false → (b && eqb (suc version) s.version) ≡ false → (b && ltb version s.version) ≡ false
    go false e m = refl
    go true e m = less_false version s.version (let ne : suc version ≡ s.version → ⊥ = eqb-false (suc version) s.version m in let l : s.version - 1 ≤ version = ltb-false version (s.version - 1) e in omega arith)

own_fresh : (s : Shift) (source : Source) → any_rests (own_stamps source) (touch_before s) ≡ false → any_rests (own_stamps (moved_source s source)) (touch_of s) ≡ false
own_fresh s source e = go (is_moved s source) refl
  where
    at_version : (k : CutKind) → any_rests (own_by k (record source { rows_version = s.version })) (touch_of s) ≡ false
    at_version Bound = or_none _ _ (ap (λ b. eqb source.node s.node && b) (less_false s.version s.version (omega arith)) ∙ and_no (eqb source.node s.node)) (or_none _ _ (and_no (eqb source.node s.node)) refl)
    at_version Ray = or_none _ _ (ap (λ b. eqb source.node s.node && b) (less_false s.version s.version (omega arith)) ∙ and_no (eqb source.node s.node)) refl

    as_before : (k : CutKind) → any_rests (own_by k source) (touch_before s) ≡ false → is_moved s source ≡ false → any_rests (own_by k source) (touch_of s) ≡ false
    as_before Bound e m = or_none _ _ (rows_fresh s source.node source.rows_version (neither _ _ e).0 m) (or_none _ _ (and_no (eqb source.node s.node)) refl)
    as_before Ray e m = or_none _ _ (rows_fresh s source.node source.rows_version (neither _ _ e).0 m) refl

    go : (b : Bool) → is_moved s source ≡ b → any_rests (own_stamps (elim b [ true ↦ record source { rows_version = s.version } | false ↦ source ])) (touch_of s) ≡ false
    go true p = at_version source.kind
    go false p = as_before source.kind e p

mutual
  repair_fresh : (s : Shift) (cut : Stored) → reaches cut (touch_before s) ≡ false → reaches (repair s cut) (touch_of s) ≡ false
  repair_fresh s (Stored_of source uses constant form) e = let n = neither _ _ e in or_none _ _ (own_fresh s source n.0) (repairs_fresh s uses n.1)

  repairs_fresh : (s : Shift) (uses : StoredUses) → any_reaches uses (touch_before s) ≡ false → any_reaches (repairs s uses) (touch_of s) ≡ false
  repairs_fresh s No_stored e = e
  repairs_fresh s (Use_stored w cut uses) e = let n = neither _ _ e in or_none _ _ (repair_fresh s cut n.0) (repairs_fresh s uses n.1)

pub repairs_are_exact : RepairLaws
repairs_are_exact = record {
  repairs = repair_ends;
  rests = λ s cut t e. supports_are_exact.rests cut t ∙ repair_rests s t cut (sym (supports_are_exact.rests (repair s cut) t) ∙ e);
  fresh = λ s cut e. supports_are_exact.rests (repair s cut) (touch_of s) ∙ repair_fresh s cut (sym (supports_are_exact.rests cut (touch_before s)) ∙ e);
  made = λ book s cut r i m e. subst (IsMadeFor book) (sym (repair_ends s cut r e)) (repairs_are_made book s cut i m);
}

pub values_are_exact : ValueLaw
values_are_exact cut trial q e = product_from-ends (coefficient trial) (constant_of cut) (form_of cut) q e

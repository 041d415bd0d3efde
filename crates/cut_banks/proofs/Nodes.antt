-- Each pool is of the node of its place, and so are its cuts.
use Rattle.std.proofs.Common.{◌≡◌, ℕ, zero, suc, ◌+◌, ◌<◌, ◌≤◌, Bool, true, false, ◌&&◌, eqb, List, [], ◌∷◌, ◌++◌, length, set, Option, Some, None, Result, Ok, Err, refl, sym, ap, subst, ◌∙◌, arith, eqb-true}
use Rattle.std.proofs.lemmas.List.{map_push}
use Rattle.rationals.specs.Passes.{Operation, then_walk}
use Rattle.rationals.specs.Choices.{pick}
use Rattle.scen_defs.specs.Lists.{Each}
use Rattle.cut_defs.specs.declared.versions.Due.{Due}
use Rattle.cut_defs.specs.declared.versions.Touch.{Touch}
use Rattle.cut_defs.specs.declared.versions.Shift.{Shift}
use Rattle.cut_defs.specs.Stored.{Source, Stored, StoredUses, source_of}
use Rattle.cut_defs.specs.Stored.Stored.{Stored_of}
use Rattle.cut_defs.specs.Stored.StoredUses.{No_stored}
use Rattle.cut_defs.specs.Repairs.{is_moved, moved_source}
use Rattle.cut_defs.specs.Support.{cut_rests}
use Rattle.cut_proof.specs.Repairing.{touch_before, own_walk, changes_from, repairs_from, repair_walk, shifted_walk}
use Rattle.cut_pool.specs.declared.offer.Offer.{Offer}
use Rattle.cut_pool.specs.declared.offer.Offer.TheVariants.{Added, NotNeeded, Stale, Passed}
use Rattle.cut_pool.specs.Held.{Held}
use Rattle.cut_pool.specs.Pool.{after_offer, with_cut, or_none, repair_of, repaired_on, kept_of, swept}
use Rattle.cut_banks.specs.Pools.{no_cuts, numbers_of, may_change, may_take, may_put, with_pool, fitting, swept_for, IsOfNode, AreOfNodes, IsBank}

both : (a b : Bool) → (a && b) ≡ true → (a ≡ true) × (b ≡ true)
both true b e = (refl, e)
both false b e = absurd (cc)

pub empty_is_of : (n : ℕ) → IsOfNode n (no_cuts n)
empty_is_of n = record { node = refl; cuts = tt }

-- ---- the pools
pub of_nodes_pushed : (n k : ℕ) (ps : List Held) → n + length ps ≡ k → AreOfNodes n ps → AreOfNodes n (ps ++ no_cuts k ∷ [])
of_nodes_pushed n k [] e h = (record { node = let q : k ≡ n = omega (arith, e) in q; cuts = tt }, tt)
of_nodes_pushed n k (p ∷ ps) e h = (h.0, of_nodes_pushed (suc n) k ps (omega (arith, e)) h.1)

pub of_nodes_set : (n k i : ℕ) (ps : List Held) → n + i ≡ k → AreOfNodes n ps → AreOfNodes n (set ps i (no_cuts k))
of_nodes_set n k i [] e h = tt
of_nodes_set n k zero (p ∷ ps) e h = (record { node = let q : k ≡ n = omega (arith, e) in q; cuts = tt }, h.1)
of_nodes_set n k (suc i) (p ∷ ps) e h = (h.0, of_nodes_set (suc n) k i ps (omega (arith, e)) h.1)

-- a change leaves each pool at its node
abbrev pub KeepsNode : (Held → Bool) → (Held → Held) → Type 0
KeepsNode test change = (n : ℕ) (p : Held) → test p ≡ true → IsOfNode n p → IsOfNode n (change p)

pub of_nodes_changed : (test : Held → Bool) (change : Held → Held) (n i : ℕ) (ps : List Held) → KeepsNode test change → AreOfNodes n ps → AreOfNodes n (with_pool test change i ps)
of_nodes_changed test change n i [] k h = tt
of_nodes_changed test change n zero (p ∷ ps) k h = (go (test p) refl, h.1)
  where
    go : (b : Bool) → test p ≡ b → IsOfNode n (pick b (change p) p)
    go true e = k n p e h.0
    go false e = h.0
of_nodes_changed test change n (suc i) (p ∷ ps) k h = (h.0, of_nodes_changed test change (suc n) i ps k h.1)

-- ---- one more cut
each_pushed : {A : Type 0} (P : A → Type 0) (xs : List A) (x : A) → Each P xs → P x → Each P (xs ++ x ∷ [])
each_pushed P [] x h p = (p, tt)
each_pushed P (y ∷ ys) x h p = (h.0, each_pushed P ys x h.1 p)

with_cut_of : (n : ℕ) (p : Held) (cut : Stored) → (source_of cut).node ≡ n → IsOfNode n p → IsOfNode n (with_cut p cut)
with_cut_of n p cut e h = record { node = h.node; cuts = each_pushed (λ c. (source_of c).node ≡ n) p.cuts cut h.cuts e }

taken_of : (n : ℕ) (p : Held) (cut : Stored) → may_take cut p ≡ true → IsOfNode n p → (source_of cut).node ≡ n
taken_of n p cut t h = sym (eqb-true p.node (source_of cut).node (both (eqb p.node (source_of cut).node) (may_change p) t).0) ∙ h.node

pub offer_keeps : (cut : Stored) (answer : Held → Offer) → KeepsNode (may_take cut) (λ p. after_offer p cut (answer p))
offer_keeps cut answer = λ n p t h. go n p (taken_of n p cut t h) h (answer p)
  where
    go : (n : ℕ) (p : Held) → (source_of cut).node ≡ n → IsOfNode n p → (o : Offer) → IsOfNode n (after_offer p cut o)
    go n p e h Added = with_cut_of n p cut e h
    go n p e h (NotNeeded v) = h
    go n p e h (Stale m part seen known) = h
    go n p e h (Passed o) = h

pub put_keeps : (cut : Stored) → KeepsNode (may_put cut) (λ p. with_cut p cut)
put_keeps cut = λ n p t h. with_cut_of n p cut (taken_of n p cut (both (may_take cut p) _ t).0 h) h

-- ---- a repair is of the same node
then_ok : {A B : Type 0} (w : Result A Operation) (k : A → Result B Operation) (r : B) → then_walk w k ≡ Ok r → (x : A) × (k x ≡ Ok r)
then_ok (Ok x) k r e = (x, e)
then_ok (Err o) k r e = absurd (cc)

abbrev node_of : Source → ℕ
node_of source = source.node

moved_node : (s : Shift) (source : Source) → (moved_source s source).node ≡ source.node
moved_node s source = go (is_moved s source)
  where
    go : (b : Bool) → node_of (elim b [ true ↦ record source { rows_version = s.version } | false ↦ source ]) ≡ source.node
    go true = refl
    go false = refl

repaired_node : (s : Shift) (cut r : Stored) → repair_walk s cut ≡ Ok r → (source_of r).node ≡ (source_of cut).node
repaired_node s (Stored_of source uses constant form) r e =
    let a = then_ok (repairs_from s No_stored uses) (λ us. then_walk (own_walk s source constant) (λ c. then_walk (changes_from c uses us) (λ d. Ok (Stored_of (moved_source s source) us d form)))) r e in
    let b = then_ok (own_walk s source constant) (λ c. then_walk (changes_from c uses a.0) (λ d. Ok (Stored_of (moved_source s source) a.0 d form))) r a.1 in
    let d = then_ok (changes_from b.0 uses a.0) (λ d. Ok (Stored_of (moved_source s source) a.0 d form)) r b.1 in
    let q : Stored_of (moved_source s source) a.0 d.0 form ≡ r = cc (d.1) in
    sym (ap (λ c. (source_of c).node) q) ∙ moved_node s source

shifted_node : (s : Shift) (cut r : Stored) → or_none (shifted_walk s cut) ≡ Some r → (source_of r).node ≡ (source_of cut).node
shifted_node s cut r e = go (cut_rests cut (touch_before s)) e
  where
    by_walk : (w : Result Stored Operation) → repair_walk s cut ≡ w → or_none (then_walk w (λ x. Ok (Some x))) ≡ Some r → (source_of r).node ≡ (source_of cut).node
    by_walk (Ok x) q e = let i : x ≡ r = cc (e) in repaired_node s cut r (q ∙ ap Ok i)
    by_walk (Err o) q e = absurd (cc)

    go : (b : Bool) → or_none (pick b (Ok None) (then_walk (repair_walk s cut) (λ x. Ok (Some x)))) ≡ Some r → (source_of r).node ≡ (source_of cut).node
    go true e = absurd (cc)
    go false e = by_walk (repair_walk s cut) refl e

-- ---- a sweep
kept_cuts : (n : ℕ) (t : Touch) (shift : Option Shift) (cs : List Stored) → Each (λ c. (source_of c).node ≡ n) cs → Each (λ c. (source_of c).node ≡ n) (kept_of t shift cs)
kept_cuts n t shift [] h = tt
kept_cuts n t shift (c ∷ cs) h = go (cut_rests c t) (kept_cuts n t shift cs h.1)
  where
    replaced : (shift : Option Shift) (rest : List Stored) → Each (λ c. (source_of c).node ≡ n) rest → Each (λ c. (source_of c).node ≡ n) (repaired_on (repair_of shift c) rest)
    replaced None rest ih = ih
    replaced (Some s) rest ih = by_repair (or_none (shifted_walk s c)) refl
      where
        by_repair : (o : Option Stored) → or_none (shifted_walk s c) ≡ o → Each (λ c. (source_of c).node ≡ n) (repaired_on o rest)
        by_repair None e = ih
        by_repair (Some r) e = (shifted_node s c r e ∙ h.0, ih)

    go : (b : Bool) → Each (λ c. (source_of c).node ≡ n) (kept_of t shift cs) → Each (λ c. (source_of c).node ≡ n) (pick b (repaired_on (repair_of shift c) (kept_of t shift cs)) (c ∷ kept_of t shift cs))
    go true ih = replaced shift (kept_of t shift cs) ih
    go false ih = (h.0, ih)

pub sweep_keeps : (due : Due) → KeepsNode may_change (swept_for due)
sweep_keeps due = λ n p t h. go n p h (may_change p)
  where
    go : (n : ℕ) (p : Held) → IsOfNode n p → (b : Bool) → IsOfNode n (pick b (swept p due.touch (fitting due.touch due.shift)) p)
    go n p h true = record { node = h.node; cuts = kept_cuts n due.touch (fitting due.touch due.shift) p.cuts h.cuts }
    go n p h false = h

-- one more pool, of the next node
pub banked_pushed : (ps qs : List Held) (ns ms : List ℕ) (n : ℕ) (p : Held) → IsBank ns ps → n ≡ length ps → ms ≡ ns ++ 0 ∷ [] → qs ≡ ps ++ p ∷ [] → p ≡ no_cuts n → IsBank ms qs
banked_pushed ps qs ns ms n p h l m q e =
    let all : qs ≡ ps ++ no_cuts n ∷ [] = q ∙ ap (λ (r : Held). ps ++ r ∷ []) e in
    record {
      numbers_are = m ∙ ap (λ (xs : List ℕ). xs ++ 0 ∷ []) h.numbers_are ∙ sym (map_push (λ (r : Held). r.number) ps (no_cuts n)) ∙ sym (ap numbers_of all);
      of_nodes = subst (AreOfNodes 0) (sym all) (of_nodes_pushed 0 n ps (omega (arith, l)) h.of_nodes);
    }

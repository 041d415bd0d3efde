-- The numbers of a form are pushed behind those of the nodes before.
use Rattle.std.proofs.Common.{◌≡◌, ℕ, zero, suc, ◌+◌, ◌<◌, Bool, true, false, List, [], ◌∷◌, ◌++◌, length, drop, get_or, sym, ap, subst, ◌∙◌, arith, append_assoc, append-nil}
use Rattle.rationals.specs.Rational.{ℚ, zero_ℚ}
use Rattle.rationals.specs.Sparse.{Entry, Ascending, Ascending-weaker}
use Rattle.rationals.specs.Forms.{AllNonzero, IsForm}
use Rattle.rationals.specs.Choices.{pick}
use Rattle.scen_defs.specs.Lists.{Each}
use Rattle.scen_defs.specs.Values.{At, IsBefore, EndsBefore}
use Rattle.scen_defs.proofs.NodeReads.{drop_read}
use Rattle.scen_defs.proofs.ValueLaws.{each-push}
use Rattle.dual_assemble.specs.Values.{is_place, number_at, node_values}

-- the numbers end before each entry of a form at node n
abbrev pub Ready : ℕ → List Entry → List At → Type 0
Ready n f values = Each (λ (e : Entry). EndsBefore values n e.column) f

-- ---- at the start
before_any : (n c : ℕ) (values : List At) → EndsBefore values n 0 → EndsBefore values n c
before_any n c [] h = tt
before_any n c (a ∷ values) h = (record { node = h.0.node; index = λ e. absurd (omega (arith, h.0.index e)) }, before_any n c values h.1)

pub ready_all : (n : ℕ) (f : List Entry) (values : List At) → EndsBefore values n 0 → Ready n f values
ready_all n [] values h = tt
ready_all n (e ∷ f) values h = (before_any n e.column values h, ready_all n f values h)

pub next_node : (n : ℕ) (values : List At) → EndsBefore values n 0 → EndsBefore values (n + 1) 0
next_node n [] h = tt
next_node n (a ∷ values) h = (record { node = omega (arith, h.0.node); index = λ e. absurd (omega (arith, h.0.node, e)) }, next_node n values h.1)

-- ---- one more number
pushed : (n i m c : ℕ) (q : ℚ) (values all : List At) → EndsBefore values n i → IsBefore n i (record { node = m; index = c; value = q }) → all ≡ values ++ number_at m c q → EndsBefore all n i
pushed n i m c q values all h k e = subst (λ (l : List At). EndsBefore l n i) (sym e) (go (is_place m c))
  where
    go : (b : Bool) → EndsBefore (values ++ pick b (record { node = m; index = c; value = q } ∷ []) []) n i
    go true = each-push (IsBefore n i) values (record { node = m; index = c; value = q }) h k
    go false = subst (λ (l : List At). EndsBefore l n i) (sym (append-nil values)) h

still_ready : (n c m : ℕ) (q : ℚ) (f : List Entry) (values all : List At) → c < m → Ascending m f → Ready n f values → all ≡ values ++ number_at n c q → Ready n f all
still_ready n c m q [] values all l a h e = tt
still_ready n c m q (d ∷ f) values all l a h e = (
  pushed n d.column n c q values all h.0 (record { node = omega arith; index = λ _. omega (arith, a.0) }) e,
  still_ready n c (suc d.column) q f values all (omega (arith, a.0)) a.1 h.1 e,
)

rises_from : (n i : ℕ) (f : List Entry) → Ascending n f → Ascending n (drop i f)
rises_from n zero f a = a
rises_from n (suc i) [] a = tt
rises_from n (suc i) (e ∷ f) a = rises_from n i f (Ascending-weaker (suc e.column) n f (omega (arith, a.0)) a.1)

nonzero_from : (i : ℕ) (f : List Entry) → AllNonzero f → AllNonzero (drop i f)
nonzero_from zero f a = a
nonzero_from (suc i) [] a = tt
nonzero_from (suc i) (e ∷ f) a = nonzero_from i f a.1

module _ (n : ℕ) (f : List Entry) (i : ℕ) (x : Entry) (h : i < length f) (r : x ≡ get_or f i x) where
  here : drop i f ≡ x ∷ drop (i + 1) f
  here = drop_read f i x h r

  -- the next entry may be pushed
  pub push_rises : (values : List At) → Ready n (drop i f) values → EndsBefore values n x.column
  push_rises values k = (subst (λ (l : List Entry). Ready n l values) here k).0

  pub push_is_number : IsForm f → x.value ≡ zero_ℚ → ⊥
  push_is_number a = (subst AllNonzero here (nonzero_from i f a.nonzero)).0

  -- and then those behind it
  pub next_ready : (values all : List At) → IsForm f → Ready n (drop i f) values → all ≡ values ++ number_at n x.column x.value → Ready n (drop (i + 1) f) all
  next_ready values all a k e =
      let rest : Ascending 0 (x ∷ drop (i + 1) f) = subst (Ascending 0) here (rises_from 0 i f a.rises) in
      still_ready n x.column (suc x.column) x.value (drop (i + 1) f) values all (omega arith) rest.1 (subst (λ (l : List Entry). Ready n l values) here k).1 e

  pub next_ends : (values all : List At) → EndsBefore values (n + 1) 0 → all ≡ values ++ number_at n x.column x.value → EndsBefore all (n + 1) 0
  next_ends values all k e = pushed (n + 1) 0 n x.column x.value values all k (record { node = omega arith; index = λ q. absurd (omega (arith, q)) }) e

  pub next_kept : (values all whole : List At) → all ≡ values ++ number_at n x.column x.value → values ++ node_values n (drop i f) ≡ whole → all ++ node_values n (drop (i + 1) f) ≡ whole
  next_kept values all whole e k =
      ap (λ l. l ++ node_values n (drop (i + 1) f)) e ∙ append_assoc values (number_at n x.column x.value) (node_values n (drop (i + 1) f))
      ∙ sym (ap (λ l. values ++ node_values n l) here) ∙ k

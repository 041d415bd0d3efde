-- What a walk that came to its end, or was stopped, went through.
use Rattle.std.proofs.Common.{◌≡◌, List, [], ◌∷◌, Result, Ok, Err, refl, sym, ap, ◌∙◌}
use Rattle.rationals.specs.Rational.{ℚ, one_ℚ, ◌+ℚ◌, ◌-ℚ◌, by_eqs, by_ring, terms, add_zero_ℚ}
use Rattle.rationals.specs.Ring.Eqs.{done, by_eq}
use Rattle.rationals.specs.Passes.{Operation, then_walk}
use Rattle.rationals.specs.Sums.{sum_ℚ}
use Rattle.rationals.proofs.WalkLaws.{ended}
use Rattle.scen_defs.specs.Lists.{Each}
use Rattle.scen_model.specs.declared.stop.Stop.{Stop}
use Rattle.scen_model.specs.declared.stop.Stop.TheVariants.{Decided}
use Rattle.scen_model.specs.Walks.{fold_walk, stopping}

-- a walk that decides
pub data Decides {A B : Type 0} (first : Result A Stop) (next : A → Result B Stop) : Type 0 where
  at_first : first ≡ Err Decided → Decides first next
  at_next : (a : A) → first ≡ Ok a → next a ≡ Err Decided → Decides first next

pub decides : {A B : Type 0} (first : Result A Stop) (next : A → Result B Stop) → then_walk first next ≡ Err Decided → Decides first next
decides (Ok a) next e = at_next a refl e
decides (Err s) next e = at_first (let d : s ≡ Decided = cc in ap Err d)

pub stopping-ends : {A : Type 0} (w : Result A Operation) (a : A) → stopping w ≡ Ok a → w ≡ Ok a
stopping-ends (Ok b) a e = let d : b ≡ a = cc in ap Ok d
stopping-ends (Err p) a e = absurd (cc)

pub stopping-decided : {A : Type 0} (w : Result A Operation) → stopping w ≡ Err Decided → ⊥
stopping-decided (Ok b) e = absurd (cc)
stopping-decided (Err p) e = absurd (cc)

-- ---- step after step
module _ {A P : Type 0} (f : ℚ → A → Result ℚ P) (g : A → ℚ) where
  pub fold-adds : ((s : ℚ) (a : A) (t : ℚ) → f s a ≡ Ok t → t ≡ s +ℚ g a) → (s : ℚ) (xs : List A) (q : ℚ) → fold_walk f s xs ≡ Ok q → q ≡ s +ℚ sum_ℚ g xs
  fold-adds h s [] q e = let d : q ≡ s = cc in d ∙ sym (add_zero_ℚ s)
  fold-adds h s (x ∷ xs) q e =
      let one = ended (f s x) (λ t. fold_walk f t xs) q e in
      let r : q ≡ one.result +ℚ sum_ℚ g xs = fold-adds h one.result xs q one.next_is in
      let t : one.result ≡ s +ℚ g x = h s x one.result one.first_is in
      by_eqs (q ∷ s ∷ one.result ∷ g x ∷ sum_ℚ g xs ∷ []) (by_eq one_ℚ r (by_eq one_ℚ t done)) (search terms depth 40) tt

  pub fold-takes : ((s : ℚ) (a : A) (t : ℚ) → f s a ≡ Ok t → t ≡ s -ℚ g a) → (s : ℚ) (xs : List A) (q : ℚ) → fold_walk f s xs ≡ Ok q → q ≡ s -ℚ sum_ℚ g xs
  fold-takes h s [] q e = let d : q ≡ s = cc in d ∙ by_ring (s ∷ []) (search terms depth 40) tt
  fold-takes h s (x ∷ xs) q e =
      let one = ended (f s x) (λ t. fold_walk f t xs) q e in
      let r : q ≡ one.result -ℚ sum_ℚ g xs = fold-takes h one.result xs q one.next_is in
      let t : one.result ≡ s -ℚ g x = h s x one.result one.first_is in
      by_eqs (q ∷ s ∷ one.result ∷ g x ∷ sum_ℚ g xs ∷ []) (by_eq one_ℚ r (by_eq one_ℚ t done)) (search terms depth 40) tt

pub fold-each : {A S P : Type 0} (f : S → A → Result S P) (G : A → Type 0) → ((s : S) (a : A) (t : S) → f s a ≡ Ok t → G a) → (s : S) (xs : List A) (q : S) → fold_walk f s xs ≡ Ok q → Each G xs
fold-each f G h s [] q e = tt
fold-each f G h s (x ∷ xs) q e = let one = ended (f s x) (λ t. fold_walk f t xs) q e in (h s x one.result one.first_is, fold-each f G h one.result xs q one.next_is)

pub fold-decided : {A S : Type 0} (f : S → A → Result S Stop) (G : A → Type 0) → ((s : S) (a : A) → f s a ≡ Err Decided → G a → ⊥) → (s : S) (xs : List A) → fold_walk f s xs ≡ Err Decided → Each G xs → ⊥
fold-decided f G h s [] e g = absurd (cc)
fold-decided {A} {S} f G h s (x ∷ xs) e g = go (decides (f s x) (λ t. fold_walk f t xs) e) (λ t k. fold-decided f G h t xs k g.1)
  where
    go : Decides (f s x) (λ t. fold_walk f t xs) → ((t : S) → fold_walk f t xs ≡ Err Decided → ⊥) → ⊥
    go (at_first d) rest = h s x d g.0
    go (at_next t d k) rest = rest t k

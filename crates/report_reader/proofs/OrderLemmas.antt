-- The test that all stand before a place.
use Rattle.std.proofs.Common.{◌≡◌, ◌≤◌, ◌<◌, ℕ, Bool, true, false, ◌||◌, ◌&&◌, eqb, ltb, List, [], ◌∷◌, Decides, refl, arith}
use Rattle.std.proofs.lemmas.Bool.{false≢true}
use Rattle.std.proofs.lemmas.Bool.Decides.{nat_tests}
use Rattle.scen_defs.specs.Values.{At, IsBefore, EndsBefore}
use Rattle.report_reader.specs.Lines.{stands_before, all_before}

stands : (n i m j : ℕ) → Decides (ltb m n || eqb m n && ltb j i) ((m ≤ n) × (m ≡ n → j < i))
stands n i m j = (λ t. (grind (arith, nat_tests), λ e. grind (arith, nat_tests)), λ h. let f : m ≡ n → j < i = h.1 in let g : m ≤ n = h.0 in grind (arith, nat_tests))

both : (a b : Bool) (P Q : Type 0) → Decides a P → Decides b Q → Decides (a && b) (P × Q)
both true b P Q p q = (λ t. (p.0 refl, q.0 t), λ h. q.1 h.1)
both false b P Q p q = (λ t. absurd (false≢true t), λ h. p.1 h.0)

before : (n i : ℕ) (a : At) → Decides (stands_before n i a) (IsBefore n i a)
before n i a =
    let s = stands n i a.node a.index in
    (λ t. let h = s.0 t in record { node = h.0; index = h.1 }, λ h. s.1 (h.node, h.index))

pub all_before_means : (n i : ℕ) (values : List At) → Decides (all_before n i values) (EndsBefore values n i)
all_before_means n i [] = (λ _. tt, λ _. refl)
all_before_means n i (a ∷ values) = both (stands_before n i a) (all_before n i values) (IsBefore n i a) (EndsBefore values n i) (before n i a) (all_before_means n i values)

-- Two appends, one after the other.
use Rattle.std.proofs.Common.{◌≡◌, ℕ, ◌+◌, List, ◌++◌, take, drop, Option, None, Some, refl, ap, sym, ◌∙◌, append_assoc, inl, inr, ◌^◌, ◌-◌, ◌≤◌, arith}
use Rattle.std.proofs.Math.Seq.{take-add}
use Rattle.std.specs.Option.{option_map}
use Rattle.smps_io.specs.Faults.{RoseBy}
use Rattle.smps_io.specs.Puts.{Appends}

append_twice : (old : Option (List ℕ)) (xs ys : List ℕ) → option_map (λ written. written ++ ys) (option_map (λ written. written ++ xs) old) ≡ option_map (λ written. written ++ (xs ++ ys)) old
append_twice None xs ys = refl
append_twice (Some w) xs ys = ap Some (append_assoc w xs ys)

pub appends_more : (old mid new : Option (List ℕ)) (bytes : List ℕ) (at k : ℕ)
    → Appends old (take at bytes) mid → Appends mid (take k (drop at bytes)) new → Appends old (take (at + k) bytes) new
appends_more old mid new bytes at k first then =
    then ∙ ap (option_map (λ written. written ++ take k (drop at bytes))) first
    ∙ append_twice old (take at bytes) (take k (drop at bytes))
    ∙ sym (ap (λ b. option_map (λ written. written ++ b) old) (take-add at k bytes))

-- a count that rose twice
pub rose_more : (a b c n m : ℕ) → RoseBy a n b → RoseBy b m c → RoseBy a (n + m) c
rose_more a b c n m (inl p) (inl q) = inl (omega arith)
rose_more a b c n m (inr p) (inl q) = inr (omega arith)
rose_more a b c n m h (inr q) = inr q

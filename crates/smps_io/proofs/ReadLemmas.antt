-- What reads take of the bytes that a reader tells.
use Rattle.std.proofs.Common.{◌≡◌, ◌∙◌, ℕ, ap, sym, List, [], ◌++◌, Option, Some, None, append-nil}
use Rattle.std.specs.Prelude.{IfSome}
use Rattle.std.specs.Io.KnownBytes.{Consumes, IsAtEnd}

-- at the end all were taken
pub all_consumed : (first now last : Option (List ℕ)) (bytes chunk : List ℕ) → Consumes first now bytes → Consumes now last chunk → chunk ≡ []
    → IsAtEnd last → IfSome first (λ all. bytes ≡ all)
all_consumed None now last bytes chunk a b none end = tt
all_consumed (Some xs) None last bytes chunk a b none end = absurd a
all_consumed (Some xs) (Some ys) None bytes chunk a b none end = absurd b
all_consumed (Some xs) (Some ys) (Some zs) bytes chunk a b none end =
    let empty : ys ≡ [] = b ∙ ap (λ l. l ++ zs) none ∙ end in
    sym (append-nil bytes) ∙ ap (λ l. bytes ++ l) (sym empty) ∙ sym a

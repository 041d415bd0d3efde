-- What is found of a node.
use Rattle.std.proofs.Common.{◌≡◌, ◌↔◌, ◌∙◌, ap, sym, subst, true, false, Option, Some, None, IsSome, IfSome}
use Rattle.cut_defs.specs.Data.{Datum, IsDatum}

-- what is found where the data are those of a book
pub found_is : (found : Option Datum) (d e : Datum) → (IsSome found ↔ IsDatum d) → IfSome found (λ x. x ≡ d) → d ≡ e → IsDatum e → found ≡ Some e
found_is None d e exact datum same good = absurd (let h : false ≡ true = exact.1 (subst IsDatum (sym same) good) in cc)
found_is (Some x) d e exact datum same good = ap (λ (y : Datum). Some y) (datum ∙ same)

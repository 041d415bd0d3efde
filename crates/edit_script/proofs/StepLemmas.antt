-- What an edit that is allowed gives.
use Rattle.std.proofs.Common.{◌≡◌, ◌&&◌, ltb, not, length, Option, Some, None, refl}
use Rattle.rationals.specs.Passes.{Operation}
use Rattle.scen_defs.specs.Program.{Program}
use Rattle.edit_defs.specs.declared.edit.Edit.{Edit}
use Rattle.edit_defs.specs.declared.edit.Edit.TheVariants.{Set, Prob, Drop, Add}
use Rattle.edit_defs.specs.After.{is_known, after}
use Rattle.edit_defs.specs.Applies.{Applies}
use Rattle.edit_defs.specs.Limits.{is_above_limits}
use Rattle.edit_defs.specs.Operations.{first_passed, set_passed, chances_passed}
use Rattle.edit_defs.specs.Causes.{refused, passing, is_late, is_inner, is_last, adds_too_many}
use Rattle.edit_defs.proofs.Causes.{passed, edits_without_cause_apply}
use Rattle.edit_script.specs.Allowed.{IsAllowed}

none-passes : (o : Option Operation) → passing o ≡ None → o ≡ None
none-passes None h = refl
none-passes (Some o) h = absurd (cc)

-- no operation of an edit without a cause passes
pub no-passing : (p : Program) (e : Edit) → refused p e ≡ None → first_passed p e ≡ None
no-passing p (Set name entry v) h =
    let one = passed (not (is_known name p.scenarios)) _ _ h in
    let two = passed (is_late p entry) _ _ one.1 in
    let three = passed (adds_too_many (after p (Set name entry v)) entry) _ _ two.1 in
    none-passes (set_passed p entry v) three.1
no-passing p (Prob name q) h =
    let one = passed (not (is_known name p.scenarios)) _ _ h in
    let two = passed (not (is_inner q)) _ _ one.1 in
    let three = passed (is_last p) _ _ two.1 in
    none-passes (chances_passed p (Prob name q)) three.1
no-passing p (Drop name) h =
    let one = passed (not (is_known name p.scenarios)) _ _ h in
    let two = passed (is_last p) _ _ one.1 in
    none-passes (chances_passed p (Drop name)) two.1
no-passing p (Add name parent q t) h =
    let one = passed (is_known name p.scenarios) _ _ h in
    let two = passed (not (is_known parent p.scenarios)) _ _ one.1 in
    let three = passed (not (is_inner q)) _ _ two.1 in
    let four = passed (not (ltb 0 t && ltb t (length p.periods))) _ _ three.1 in
    let five = passed (is_above_limits (after p (Add name parent q t))) _ _ four.1 in
    none-passes (chances_passed p (Add name parent q t)) five.1

-- it applies
pub edit_applies : (p : Program) (e : Edit) → IsAllowed p e → Applies p e
edit_applies p e h = edits_without_cause_apply p e h.places h.asks h.no_cause

-- it leaves the columns and the rows of the program
pub columns-stay : (p : Program) (e : Edit) → (after p e).columns ≡ p.columns
columns-stay p (Set name entry v) = refl
columns-stay p (Prob name q) = refl
columns-stay p (Drop name) = refl
columns-stay p (Add name parent q t) = refl

pub rows-stay : (p : Program) (e : Edit) → (after p e).rows ≡ p.rows
rows-stay p (Set name entry v) = refl
rows-stay p (Prob name q) = refl
rows-stay p (Drop name) = refl
rows-stay p (Add name parent q t) = refl

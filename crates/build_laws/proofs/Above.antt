-- What a scenario that is stated sets with those above it: at a stage from its branch period on its own entries, before it none.
use Rattle.std.proofs.Common.{◌≡◌, ◌∙◌, ap, sym, refl, ℕ, zero, suc, ◌<◌, Bool, true, false, List, [], ◌++◌, Option, Some, None, length, get_or, nat_eq, nat_lt, nat_le, arith, if◌then◌else◌}
use Rattle.std.proofs.lemmas.Bool.Decides.{nat_tests}
use Rattle.core_defs.specs.declared.program.Core.{Core}
use Rattle.time_defs.specs.Means.{Stages}
use Rattle.stoch_defs.specs.Entries.{stage_of}
use Rattle.stoch_defs.specs.Random.{Sets, Branch}
use Rattle.build_defs.specs.Laws.{IsBelow, AreAncestral}
use Rattle.build_defs.specs.Scenarios.{no_branch, own_sets, sets_above}
use Rattle.tree_build.specs.Values.{Values, values_of, with_sets}
use Rattle.tree_build.specs.Nodes.{with_own}
use Rattle.tree_build.proofs.ValueLemmas.{all_sets}
use Rattle.build_laws.proofs.Own.{left_out, none_of}

pub lower : (k l : ℕ) (n : Option ℕ) → IsBelow k n → k < suc l → IsBelow l n
lower k l None a b = tt
lower k l (Some m) a b = omega (arith, a, b)

pub none_above : (p : Stages) (branches : List Branch) (left : ℕ) → sets_above p branches left None ≡ []
none_above p branches zero = refl
none_above p branches (suc left) = refl

-- enough is enough
pub enough : (p : Stages) (branches : List Branch) (left more : ℕ) (n : Option ℕ) → AreAncestral branches → IsBelow left n → IsBelow more n → sets_above p branches left n ≡ sets_above p branches more n
enough p branches left more None up a b = none_above p branches left ∙ sym (none_above p branches more)
enough p branches zero more (Some k) up a b = absurd (omega (arith, a))
enough p branches (suc left) zero (Some k) up a b = absurd (omega (arith, b))
enough p branches (suc left) (suc more) (Some k) up a b =
    ap (λ (above : Sets). above ++ own_sets p (get_or branches k no_branch))
    (enough p branches left more (get_or branches k no_branch).parent up (lower k left (get_or branches k no_branch).parent (up k) a) (lower k more (get_or branches k no_branch).parent (up k) b))

-- those above it, and then its own
pub own_last : (p : Stages) (branches : List Branch) (left k : ℕ) → AreAncestral branches → k < left →
    sets_above p branches left (Some k) ≡ sets_above p branches left (get_or branches k no_branch).parent ++ own_sets p (get_or branches k no_branch)
own_last p branches zero k up below = absurd (omega (arith, below))
own_last p branches (suc left) k up below =
    let parent = (get_or branches k no_branch).parent in
    ap (λ (above : Sets). above ++ own_sets p (get_or branches k no_branch))
    (enough p branches left (suc left) parent up (lower k left parent (up k) below) (lower k (suc left) parent (up k) (omega (arith, below))))

-- the entries from the branch period on, at a stage
pub own_are : (core : Core) (p : Stages) (stage : ℕ) (branch : Branch) (sets : Sets) →
    values_of core p (sets ++ own_sets p branch) stage ≡ with_own core p stage branch (values_of core p sets stage)
own_are core p stage branch sets = sym (all_sets core p stage sets (own_sets p branch)) ∙ go (nat_lt stage branch.stage) refl
  where
    earlier : (at : ℕ) → nat_lt stage branch.stage ≡ false → nat_le branch.stage at ≡ false → nat_eq at stage ≡ false
    earlier at is other = grind (arith, nat_tests, is, other)

    later : (at : ℕ) → nat_lt stage branch.stage ≡ true → nat_le branch.stage at ≡ true → nat_eq at stage ≡ false
    later at is other = grind (arith, nat_tests, is, other)

    go : (b : Bool) → nat_lt stage branch.stage ≡ b → with_sets core p stage (values_of core p sets stage) (own_sets p branch)
        ≡ (if b then values_of core p sets stage else with_sets core p stage (values_of core p sets stage) branch.sets)
    go true is = none_of core p stage (λ pair. nat_le branch.stage (stage_of p pair.0)) sets branch.sets (λ pair passes. later (stage_of p pair.0) is passes)
    go false is = left_out core p stage (λ pair. nat_le branch.stage (stage_of p pair.0)) sets branch.sets (λ pair fails. earlier (stage_of p pair.0) is fails)

-- the values of a scenario at a stage, of those above it, or of the core's path
abbrev pub values_above : Core → Stages → List Branch → Option ℕ → ℕ → Values
values_above core p branches n stage = values_of core p (sets_above p branches (length branches) n) stage

pub above_is : (core : Core) (p : Stages) (branches : List Branch) (k stage : ℕ) → AreAncestral branches → k < length branches →
    values_above core p branches (Some k) stage ≡ with_own core p stage (get_or branches k no_branch) (values_above core p branches (get_or branches k no_branch).parent stage)
above_is core p branches k stage up below =
    ap (λ (all : Sets). values_of core p all stage) (own_last p branches (length branches) k up below)
    ∙ own_are core p stage (get_or branches k no_branch) (sets_above p branches (length branches) (get_or branches k no_branch).parent)

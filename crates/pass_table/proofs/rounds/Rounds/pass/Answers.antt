use Rattle.std.proofs.Common.{◌≡◌, ℕ, ◌<◌, List, Bool, true, false, cond, length, get_or, replicate, arith, sym, ap, subst, ◌∙◌}
use Rattle.std.proofs.Math.ListN.{set, length-set}
use Rattle.std.proofs.lemmas.List.{get_or_default, with_items_is}
use Rattle.pass_table.specs.Rounds.{Round, either, IsSplit, IsFirst, passed_waits}
use Rattle.pass_table.specs.declared.rounds.Rounds.TheInside.{Inside}
use Rattle.pass_table.proofs.RoundLemmas.{either_off, either_swap, either_long, parts_by, passed_coming, passed_waiting, round}
use Rattle.pass_table.proofs.rounds.Rounds.pass.Goals.{then-index, else-index}
use Rattle.pass_table.proofs.rounds.Rounds.pass.Goals as goal

pub remove-requires : goal.remove-requires
remove-requires c =
    omega (arith, c.requires.within, ap (λ (r : Round). length r.flags) c.self.view_is, either_long c.self.inside.coming c.self.inside.waiting c.self.invariant.long)

pub remove-requires-2 : goal.remove-requires-2
remove-requires-2 c =
    let long = c.self.invariant.long in
    omega (arith, c.requires.within, ap (λ (r : Round). length r.flags) c.self.view_is, either_long c.self.inside.coming c.self.inside.waiting long, long)

pub index-requires : goal.index-requires
index-requires c =
    let long = c.self.invariant.long in
    omega (arith, c.requires.within, ap (λ (r : Round). length r.flags) c.self.view_is, either_long c.self.inside.coming c.self.inside.waiting long, c.self.invariant.waits_long)

pub index_mut-requires : goal.index_mut-requires
index_mut-requires c = elim c.if-index.branch [
  | then-index w ↦
      omega (
        arith,
        within,
        ap (λ (i : Inside). length i.waits.items) w.self-inside-is,
        ap length (with_items_is c.self.inside.waits w.fill.new.self (w.fill.ensures.len ∙ w.as_mut_slice.ensures.len)),
        w.fill.ensures.len,
        w.as_mut_slice.ensures.len,
      )
  | else-index w ↦ omega (arith, within, ap (λ (i : Inside). length i.waits.items) w.self-inside-is)
]
  where
    within : c.args.number < length c.self.inside.waits.items
    within = omega (
      arith,
      c.requires.within,
      ap (λ (r : Round). length r.flags) c.self.view_is,
      either_long c.self.inside.coming c.self.inside.waiting c.self.invariant.long,
      c.self.invariant.waits_long,
    )

pub invariant_of-self : goal.invariant_of-self
invariant_of-self c = elim c.if-index.branch [
  | then-index w ↦
      by_all _ _ _ _ _ _ _ _ (ap (λ (i : Inside). i.coming) w.self-inside-is ∙ w.swap.ensures.x_after ∙ c.remove-2.ensures)
      (ap (λ (i : Inside). i.waiting) w.self-inside-is ∙ w.swap.ensures.y_after ∙ c.remove.ensures) (ap (λ (i : Inside). i.met.items) w.self-inside-is)
      (ap (λ (i : Inside). i.waits.items) w.self-inside-is ∙ with_items_is c.self.inside.waits w.fill.new.self (w.fill.ensures.len ∙ w.as_mut_slice.ensures.len)
      ∙ w.fill.ensures.after (λ y e. e) ∙ ap (λ x. replicate (length x) false) w.as_mut_slice.ensures.value)
      (passed_waiting cs bs _ ws n c.self.invariant first within (sym at ∙ w.if-index.true))
  | else-index w ↦
      by_all _ _ _ _ _ _ _ _ (ap (λ (i : Inside). i.coming) w.self-inside-is ∙ c.remove.ensures)
      (ap (λ (i : Inside). i.waiting) w.self-inside-is ∙ c.remove-2.ensures) (ap (λ (i : Inside). i.met.items) w.self-inside-is)
      (ap (λ (i : Inside). i.waits.items) w.self-inside-is)
      (passed_coming cs bs _ ws n c.self.invariant within (sym at ∙ w.if-index.false))
]
  where
    n : ℕ
    n = c.args.number

    cs : List Bool
    cs = c.self.inside.coming

    bs : List Bool
    bs = c.self.inside.waiting

    ws : List Bool
    ws = c.self.inside.waits.items

    first : IsFirst (round cs bs c.self.inside.met.items ws) n
    first = subst (λ (r : Round). IsFirst r n) (sym c.self.view_is) c.requires

    within : n < length cs
    within = omega (arith, first.within, either_long cs bs c.self.invariant.long)

    at : c.index.result.now ≡ get_or ws n false
    at = c.index.ensures ∙ get_or_default ws n _ false (omega (arith, within, c.self.invariant.waits_long))

    by_all : (xs ys ms zs xs' ys' ms' zs' : List Bool) → xs ≡ xs' → ys ≡ ys' → ms ≡ ms' → zs ≡ zs' → IsSplit xs' ys' ms' (set zs' n true) → IsSplit xs ys ms (set zs n true)
    by_all xs ys ms zs xs' ys' ms' zs' a b d e h =
        let A : List Bool → Type 0 = λ x. IsSplit x ys ms (set zs n true) in
        let B : List Bool → Type 0 = λ x. IsSplit xs' x ms (set zs n true) in
        let C : List Bool → Type 0 = λ x. IsSplit xs' ys' x (set zs n true) in
        let D : List Bool → Type 0 = λ x. IsSplit xs' ys' ms' (set x n true) in
        subst A (sym a) (subst B (sym b) (subst C (sym d) (subst D (sym e) h)))

pub returns : goal.returns
returns c = elim c.if-index.branch [
  | then-index w ↦
      parts_by _ _ _ _ _ _
      (ap (λ (i : Inside). either i.coming i.waiting) w.self-inside-is ∙ ap (λ x. either x w.swap.new.y) (w.swap.ensures.x_after ∙ c.remove-2.ensures)
      ∙ ap (λ x. either (set bs n false) x) (w.swap.ensures.y_after ∙ c.remove.ensures)
      ∙ either_swap (set bs n false) (set cs n false) (length-set cs n false ∙ sym long ∙ sym (length-set bs n false)) ∙ flags)
      (ap (λ (i : Inside). i.met.items) w.self-inside-is ∙ ap (λ (r : Round). r.met) c.self.view_is)
      (ap (λ (i : Inside). set i.waits.items n true) w.self-inside-is
      ∙ ap (λ x. set x n true) (with_items_is c.self.inside.waits w.fill.new.self (w.fill.ensures.len ∙ w.as_mut_slice.ensures.len)
      ∙ w.fill.ensures.after (λ y e. e) ∙ ap (λ x. replicate (length x) false) w.as_mut_slice.ensures.value)
      ∙ passed true (sym at ∙ w.if-index.true))
  | else-index w ↦
      parts_by _ _ _ _ _ _
      (ap (λ (i : Inside). either i.coming i.waiting) w.self-inside-is ∙ ap (λ x. either x c.remove-2.new.self) c.remove.ensures
      ∙ ap (λ x. either (set cs n false) x) c.remove-2.ensures ∙ flags)
      (ap (λ (i : Inside). i.met.items) w.self-inside-is ∙ ap (λ (r : Round). r.met) c.self.view_is)
      (ap (λ (i : Inside). set i.waits.items n true) w.self-inside-is ∙ passed false (sym at ∙ w.if-index.false))
]
  where
    n : ℕ
    n = c.args.number

    cs : List Bool
    cs = c.self.inside.coming

    bs : List Bool
    bs = c.self.inside.waiting

    ws : List Bool
    ws = c.self.inside.waits.items

    long : length bs ≡ length cs
    long = c.self.invariant.long

    within : n < length cs
    within = omega (arith, c.requires.within, ap (λ (r : Round). length r.flags) c.self.view_is, either_long cs bs long)

    at : c.index.result.now ≡ get_or ws n false
    at = c.index.ensures ∙ get_or_default ws n _ false (omega (arith, within, c.self.invariant.waits_long))

    flags : either (set cs n false) (set bs n false) ≡ set c.args.self.now.flags n false
    flags = either_off cs bs n long ∙ ap (λ (r : Round). set r.flags n false) c.self.view_is

    passed : (b : Bool) → get_or ws n false ≡ b → set (cond b (replicate (length ws) false) ws) n true ≡ passed_waits c.args.self.now.waits n
    passed b e = ap (λ x. set (cond x (replicate (length ws) false) ws) n true) (sym e) ∙ ap (λ (r : Round). passed_waits r.waits n) c.self.view_is

-- A ground cut is a Bound cut of the children's cuts.
use Rattle.std.proofs.Common.{◌≡◌, List, [], ◌∷◌, Some, Ok, sym, ap, subst}
use Rattle.rationals.specs.Rational.{ℚ, zero_ℚ, ◌<ℚ◌}
use Rattle.rationals.specs.Sparse.{Entry}
use Rattle.scen_defs.specs.Lists.{Each}
use Rattle.scen_defs.specs.Values.{At, at}
use Rattle.rationals.proofs.WalkLaws.{ended}
use Rattle.cut_defs.specs.declared.datum.Share.{Share}
use Rattle.cut_defs.specs.declared.kinds.CutKind.TheVariants.{Bound}
use Rattle.cut_defs.specs.Data.{Datum}
use Rattle.cut_defs.specs.Stored.{Source, Stored, StoredUses, source_of, uses_of, constant_of, form_of, IsMadeFrom}
use Rattle.cut_defs.specs.Stored.StoredUses.{No_stored, Use_stored}
use Rattle.cut_sums.specs.Walks.{made}
use Rattle.cut_proof.specs.Repairing.{snoc}
use Rattle.cut_proof.proofs.MadeFrom.{made_parts}
use Rattle.dual_assemble.specs.Ground.{quotients_from, uses_of_children, ground_source, ground_walk}
use Rattle.cut_proof.specs.declared.child.ChildCuts.{ChildCuts}
use Rattle.node_lp.specs.declared.task.Task.{Task}
use Rattle.node_lp.specs.Problem.{IsProblem, problem_of}
use Rattle.answer_laws.specs.Bounds.{StandsAmong, UsesAmong, IsBoundOf}
use Rattle.answer_laws.specs.Grounds.{GroundsAreMade}

-- the cut's multipliers, and its parts
pub parts : (d : Datum) (total : ℚ) (dual : List At) (cuts : List Stored) (cut : Stored) → ground_walk d total dual cuts ≡ Ok (Some cut)
    → (y : List Entry) × (source_of cut ≡ ground_source d y) × (uses_of cut ≡ uses_of_children No_stored d.shares cuts)
parts d total dual cuts cut e =
    let uses : StoredUses = uses_of_children No_stored d.shares cuts in
    let one = ended (quotients_from total (at dual d.node) [] d.rows) (λ y. made d (ground_source d y) uses) (Some cut) e in
    let both : (source_of cut ≡ ground_source d one.result) × (uses_of cut ≡ uses)
    = made_parts d (ground_source d one.result) uses cut one.next_is in
    (one.result, both.0, both.1)

-- ---- where each of the cuts is one of a task's, so is each used cut
among_snoc : (cs : List ChildCuts) (uses : StoredUses) (w : ℚ) (cut : Stored) → UsesAmong cs uses → zero_ℚ <ℚ w → StandsAmong cs cut
    → UsesAmong cs (snoc uses w cut)
among_snoc cs No_stored w cut h p a = (p, a, tt)
among_snoc cs (Use_stored v c uses) w cut h p a = (h.0, h.1, among_snoc cs uses w cut h.2 p a)

among_all : (cs : List ChildCuts) (uses : StoredUses) (ss : List Share) (cuts : List Stored) → UsesAmong cs uses
    → Each (λ (s : Share). zero_ℚ <ℚ s.share) ss → Each (StandsAmong cs) cuts → UsesAmong cs (uses_of_children uses ss cuts)
among_all cs uses [] cuts h p a = h
among_all cs uses (s ∷ ss) [] h p a = h
among_all cs uses (s ∷ ss) (c ∷ cuts) h p a =
    among_all cs (snoc uses s.share c) ss cuts (among_snoc cs uses s.share c h p.0 a.0) p.1 a.1

kind_is : (d : Datum) (total : ℚ) (dual : List At) (cuts : List Stored) (cut : Stored) → ground_walk d total dual cuts ≡ Ok (Some cut)
    → (source_of cut).kind ≡ Bound
kind_is d total dual cuts cut e = ap (λ (s : Source). s.kind) (parts d total dual cuts cut e).1

bound_of : (t : Task) (total : ℚ) (dual : List At) (cuts : List Stored) (cut : Stored) → IsProblem (problem_of t)
    → ground_walk t.datum total dual cuts ≡ Ok (Some cut) → IsMadeFrom t.datum (source_of cut) (uses_of cut) (constant_of cut) (form_of cut)
    → Each (StandsAmong t.children.items) cuts → IsBoundOf t (source_of cut) (uses_of cut) (constant_of cut) (form_of cut)
bound_of t total dual cuts cut fits e g a = record {
  kind = kind_is t.datum total dual cuts cut e;
  made = g;
  among = subst (UsesAmong t.children.items) (sym (parts t.datum total dual cuts cut e).2)
      (among_all t.children.items No_stored t.datum.shares cuts tt fits.shares a);
}

pub grounds_are_made : GroundsAreMade
grounds_are_made = record {
  kind = kind_is;
  uses = λ d total dual cuts cut e. (parts d total dual cuts cut e).2;
  bound = bound_of;
}

-- How a stored cut is told from others: its code.
use Rattle.std.specs.Prelude.{◌≡◌, ℕ, Bool, true, false, List, refl}
use Rattle.std.specs.Coded.{Coded, code_by, coded×, coded_ℕ, coded_bool}
use Rattle.std.proofs.Common.{ap, subst, sym}
use base.Stored.{Gv, gnil, gnum, gcons}
use Rattle.rationals.specs.Sparse.{Entry}
use Rattle.frac128.specs.contracts.Frac as frac
use Rattle.frac128.specs.contracts.Form as form
use Rattle.cut_defs.specs.declared.kinds.CutKind.{CutKind}
use Rattle.cut_defs.specs.declared.kinds.CutKind.TheVariants.{Bound, Ray}
use Rattle.cut_defs.specs.Cuts.{is_bound}
use Rattle.cut_defs.specs.Stored.{Source, Stored, StoredUses}
use Rattle.cut_defs.specs.Stored.Stored.{Stored_of}
use Rattle.cut_defs.specs.Stored.StoredUses.{No_stored, Use_stored}

abbrev pub kind_from : Bool → CutKind
kind_from true = Bound
kind_from false = Ray

pub kind_back : (k : CutKind) → kind_from (is_bound k) ≡ k
kind_back Bound = refl
kind_back Ray = refl

abbrev pub kind_coded : Coded CutKind
kind_coded = code_by Bool coded_bool is_bound kind_from kind_back

abbrev pub source_coded : Coded Source
source_coded =
    code_by (ℕ × (CutKind × (ℕ × (ℕ × List Entry))))
    (coded× coded_ℕ (coded× kind_coded (coded× coded_ℕ (coded× coded_ℕ form.the_row.coded))))
    (λ s. (s.node, (s.kind, (s.rows_version, (s.costs_version, s.multipliers)))))
    (λ p. record { node = p.0; kind = p.1.0; rows_version = p.1.1.0; costs_version = p.1.1.1.0; multipliers = p.1.1.1.1 })
    (λ _. refl)

abbrev mutual
  pub code_stored : Stored → Gv
  code_stored (Stored_of s uses constant f) =
      gcons (source_coded.code s) (gcons (code_stored_uses uses) (gcons (frac.the_row.coded.code constant) (form.the_row.coded.code f)))

  pub code_stored_uses : StoredUses → Gv
  code_stored_uses No_stored = gnil
  code_stored_uses (Use_stored weight cut rest) = gcons (frac.the_row.coded.code weight) (gcons (code_stored cut) (code_stored_uses rest))

abbrev front : Gv → Gv
front gnil = gnil
front (gnum n) = gnil
front (gcons a b) = a

abbrev back : Gv → Gv
back gnil = gnil
back (gnum n) = gnil
back (gcons a b) = b

abbrev IsPair : Gv → Type 0
IsPair gnil = ⊥
IsPair (gnum n) = ⊥
IsPair (gcons a b) = Unit {0}

mutual
  pub stored_inj : (s t : Stored) → code_stored s ≡ code_stored t → s ≡ t
  stored_inj (Stored_of a us c f) (Stored_of b vs d g) p =
      λ i. Stored_of
      (source_coded.inj a b (ap front p) i)
      (stored_uses_inj us vs (ap (λ z. front (back z)) p) i)
      (frac.the_row.coded.inj c d (ap (λ z. front (back (back z))) p) i)
      (form.the_row.coded.inj f g (ap (λ z. back (back (back z))) p) i)

  pub stored_uses_inj : (us vs : StoredUses) → code_stored_uses us ≡ code_stored_uses vs → us ≡ vs
  stored_uses_inj No_stored No_stored p = λ i. No_stored
  stored_uses_inj (Use_stored a s us) (Use_stored b t vs) p =
      λ i. Use_stored
      (frac.the_row.coded.inj a b (ap front p) i)
      (stored_inj s t (ap (λ z. front (back z)) p) i)
      (stored_uses_inj us vs (ap (λ z. back (back z)) p) i)
  stored_uses_inj No_stored (Use_stored b t vs) p = absurd (subst IsPair (sym p) tt)
  stored_uses_inj (Use_stored a s us) No_stored p = absurd (subst IsPair p tt)

abbrev pub stored_coded : Coded Stored
stored_coded = record { code = code_stored; inj = stored_inj }

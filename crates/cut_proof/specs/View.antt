-- A cut of the code as a stored one.
use Rattle.std.specs.Prelude.{◌≡◌, ℕ, ◌+◌, List, [], ◌∷◌}
use Rattle.cut_defs.specs.Stored.{Source, Stored, StoredUses}
use Rattle.cut_defs.specs.Stored.Stored.{Stored_of}
use Rattle.cut_defs.specs.Stored.StoredUses.{No_stored, Use_stored}
use Rattle.cut_defs.specs.Support.{support}
use Rattle.cut_proof.specs.declared.cut.Cut.TheInside.{Inside}
use Rattle.cut_proof.specs.declared.cut.Used.{Used}
use Rattle.cut_proof.specs.declared.cut.Record.{Record}

abbrev pub uses_content : List Used → StoredUses
uses_content [] = No_stored
uses_content (u ∷ us) = Use_stored u.weight u.cut (uses_content us)

abbrev pub source_content : Record → Source
source_content r =
    record { node = r.node; kind = r.kind; rows_version = r.rows_version; costs_version = r.costs_version; multipliers = r.multipliers }

abbrev pub cut_content : Inside → Stored
cut_content a = Stored_of (source_content a.source) (uses_content a.source.used.items) a.constant a.form

-- what holds of every cut: the list that it keeps is its support
pub record IsCut (a : Inside) : Type 0 where
  pub support_is : a.support.items ≡ support (cut_content a)

abbrev mutual
  pub stored_size : Stored → ℕ
  stored_size (Stored_of s uses constant form) = uses_size uses + 1

  pub uses_size : StoredUses → ℕ
  uses_size No_stored = 0
  uses_size (Use_stored w t rest) = stored_size t + 2 + uses_size rest

abbrev pub shared_size : Stored → ℕ
shared_size t = stored_size t + 1

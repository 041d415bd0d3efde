-- The pools of both banks: one bank for the Feasible and Cost runs, one for the Recession run.
use Rattle.std.specs.Prelude.{ℕ, Bool, List, Option}
use Rattle.rationals.specs.Choices.{pick}
use Rattle.scen_defs.specs.declared.report.Kind.{Kind}
use Rattle.scen_defs.specs.declared.report.Kind.TheVariants.{Feasible, Recession, Cost}
use Rattle.scen_defs.specs.Lists.{passes_at}
use Rattle.scen_defs.specs.Program.{Node}
use Rattle.cut_defs.specs.declared.kinds.Bank.{Bank}
use Rattle.cut_defs.specs.declared.kinds.Bank.TheVariants.{Plain, Cone}
use Rattle.cut_defs.specs.declared.versions.Due.{Due}
use Rattle.cut_pool.specs.Held.{Held}
use Rattle.cut_banks.specs.declared.banks.Banks.{Banks}
use Rattle.cut_banks.specs.Pools.{all_empty, fit_pools, may_change, pools_after}

-- no cut of any of so many nodes
abbrev pub empty_banks : ℕ → Banks
empty_banks nodes = record { plain = all_empty 0 nodes; cone = all_empty 0 nodes }

-- pools for the nodes of a program: those of nodes that aren't live are empty
abbrev pub fit_banks : List (Option Node) → Banks → Banks
fit_banks places b = record { plain = fit_pools 0 places b.plain; cone = fit_pools 0 places b.cone }

-- the pools of a run of this kind, and others in their place
abbrev pub pools_of : Kind → Banks → List Held
pools_of Feasible b = b.plain
pools_of Recession b = b.cone
pools_of Cost b = b.plain

abbrev pub with_pools : Kind → List Held → Banks → Banks
with_pools Feasible pools b = record b { plain = pools }
with_pools Recession pools b = record b { cone = pools }
with_pools Cost pools b = record b { plain = pools }

abbrev pub pools_in : Bank → Banks → List Held
pools_in Plain b = b.plain
pools_in Cone b = b.cone

-- whether the due's pool is there and may change; where not, the due changes nothing
abbrev pub has_pool : Due → Banks → Bool
has_pool due b = passes_at may_change due.pool (pools_in due.bank b)

-- behind all dues: each pool is swept for those of its own, in their order, and nothing else changes
abbrev pub swept_banks : List Due → Banks → Banks
swept_banks dues b = record { plain = pools_after Plain 0 dues b.plain; cone = pools_after Cone 0 dues b.cone }

-- behind an edit that leaves these nodes
abbrev pub edited_banks : Bool → List (Option Node) → List Due → Banks → Banks
edited_banks grown places dues b = swept_banks dues (pick grown (fit_banks places b) b)

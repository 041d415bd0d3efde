-- What is found at a node shows itself.
use Rattle.std.specs.Prelude.{◌≡◌, false, []}
use Rattle.node_lp.specs.declared.found.Found.{Found}
use Rattle.node_lp.specs.declared.found.Found.TheVariants as found
use Rattle.node_lp.specs.Problem.{Problem}
use Rattle.node_lp.specs.Records.{IsPointOf, ShowsNoPoint, HasNoLeast}
use Rattle.node_lp.specs.Cone.{IsHeld}
use Rattle.node_lp.specs.Places.{OfRows, OfColumns}

-- a point and its multipliers, multipliers that show that there is none, or points below every limit
abbrev pub ShowsItself : Problem → Found → Type 0
ShowsItself p (found.Point x value m) = IsPointOf p x value m.rows m.weights
ShowsItself p (found.NoPoint m) = ShowsNoPoint p m.rows m.weights
ShowsItself p found.Loose = HasNoLeast p
ShowsItself p found.PivotsEnded = Unit {0}
ShowsItself p (found.Passed o) = Unit {0}

abbrev pub IsNotLoose : Found → Type 0
IsNotLoose (found.Point x value m) = Unit {0}
IsNotLoose (found.NoPoint m) = Unit {0}
IsNotLoose found.Loose = ⊥
IsNotLoose found.PivotsEnded = Unit {0}
IsNotLoose (found.Passed o) = Unit {0}

-- the multipliers are of own rows, and the point's values of own columns
abbrev pub HasPlaces : Problem → Found → Type 0
HasPlaces p (found.Point x value m) = OfColumns p.bounds x × OfRows p.rows m.rows
HasPlaces p (found.NoPoint m) = OfRows p.rows m.rows
HasPlaces p found.Loose = Unit {0}
HasPlaces p found.PivotsEnded = Unit {0}
HasPlaces p (found.Passed o) = Unit {0}

pub record IsSound (p : Problem) (all : Found) : Type 0 where
  pub shows : ShowsItself p all
  -- where all own columns and all children's costs are bounded there is a least cost
  pub held : IsHeld p → IsNotLoose all
  -- and where nothing has a cost
  pub costless : p.priced ≡ false → p.cost ≡ [] → IsNotLoose all
  pub places : HasPlaces p all

-- Several hands: a fresh one, a further scenario, and another one as the present one.
use Rattle.std.proofs.Common.{◌≡◌, ◌∙◌, ◌<◌, ◌++◌, ◌∷◌, [], ℕ, suc, List, Option, None, get_or, length}
use Rattle.std.proofs.Common.{take, drop, subst, sym, ap}
use Rattle.std.specs.List.{All, remove}
use Rattle.std.proofs.lemmas.List.Elements.{All-get_or, All-push, All-append, All-take, All-drop}
use Rattle.stoch_defs.specs.Stated.{Node, value_set, path_among, paths_of}
use Rattle.scenario_paths.specs.declared.hand.Hand.{Hand}
use Rattle.scenario_paths.specs.declared.hands.Hands.{Hands}
use Rattle.scenario_paths.specs.Paths.{is_among, IsAtHand, AreAtHand}
use Rattle.scenario_paths.proofs.HandLemmas.{pushed}

-- nothing is set on the core's own path
pub fresh_is : (nodes : List Node) (hand : Hand) → hand.at ≡ None → hand.values.entries ≡ [] → IsAtHand nodes hand
fresh_is nodes hand at values = record {
  among = ap (λ (a : Option ℕ). is_among a (length nodes)) at;
  values = λ entry.
      ap (λ sets. value_set sets entry) values
      ∙ ap (λ (a : Option ℕ). value_set (path_among (paths_of nodes) a) entry) (sym at);
}

-- a further scenario leaves all as it is
pub all_pushed : (nodes all : List Node) (last : Node) (hands : Hands) → all ≡ nodes ++ last ∷ [] →
    AreAtHand nodes hands → AreAtHand all hands
all_pushed nodes all last hands is at = record {
  present = pushed nodes all last hands.present is at.present;
  others = λ k d within. pushed nodes all last (get_or hands.others.items k d) is (at.others k d within);
}

-- the hand at a place of the others
pub taken_is : (nodes : List Node) (hands : Hands) (place : ℕ) (hand : Hand) → place < length hands.others.items →
    hand ≡ get_or hands.others.items place hand → AreAtHand nodes hands → IsAtHand nodes hand
taken_is nodes hands place hand within is at =
    subst (IsAtHand nodes) (sym is) (All-get_or (IsAtHand nodes) hands.others.items place hand within at.others)

-- the others without that at a place, and with the present one
pub others_are : (nodes : List Node) (hands : Hands) (place : ℕ) → AreAtHand nodes hands →
    All (IsAtHand nodes) (remove hands.others.items place ++ hands.present ∷ [])
others_are nodes hands place at =
    let xs = hands.others.items in
    let front : All (IsAtHand nodes) (take place xs) = All-take (IsAtHand nodes) place xs at.others in
    let back : All (IsAtHand nodes) (drop (suc place) xs) = All-drop (IsAtHand nodes) (suc place) xs at.others in
    All-push (IsAtHand nodes) (remove xs place) hands.present
    (All-append (IsAtHand nodes) (take place xs) (drop (suc place) xs) front back) at.present

-- A commit of a solve whose reads are present, beside a turn of an idle machine.
use Rattle.std.proofs.Common.{◌≡◌, ℕ, ◌+◌, ◌⊎◌, inl, inr, Bool, List, [], ◌∷◌, arith, refl, sym, ap, subst, ◌∙◌}
use Rattle.std.proofs.lemmas.Bool.{cases_eq}
use Rattle.std.specs.List.{Contains}
use Rattle.pass_table.specs.Machine.{IsAbove, Last, Flight, Machine, IsChild, IsMade, IsFresh, IsGood, IsFlown, MayBegin, IsValid, begun, read_by, committed}
use Rattle.pass_table.proofs.Stale.{same_at, other_at}
use Rattle.pass_table.proofs.Events.{none_some}
use Rattle.pass_table.proofs.Valid.{valid_begun}
use Rattle.crew_turns.specs.Turn.{IsIdle, AreChildren, first_flight, read_by_each, read_each}
use Rattle.crew_turns.proofs.Turning.{AreReads, reads_are, node_read, below_read}
use Rattle.crew_turns.specs.Clear.{IsFair}
use Rattle.crew_turns.specs.Alike.{AreAlike, ReadsArePresent, turned_at, IsATurn, CommitsAreTurns}

-- ---- what alike machines have
up_to : (m k : Machine) → AreAlike m k → (a n : ℕ) → IsAbove m.parent a n → IsAbove k.parent a n
up_to m k e a n up = let P : (ℕ → ℕ) → Type 0 = λ p. IsAbove p a n in subst P (sym e.parent) up

pub up_from : (m k : Machine) → AreAlike m k → (a n : ℕ) → IsAbove k.parent a n → IsAbove m.parent a n
up_from m k e a n up = let P : (ℕ → ℕ) → Type 0 = λ p. IsAbove p a n in subst P e.parent up

pub child_to : (m k : Machine) → AreAlike m k → (n c : ℕ) → IsChild m n c → IsChild k n c
child_to m k e n c h = record {
  live = ap (λ (l : ℕ → Bool). l c) e.live ∙ h.live;
  lower = h.lower;
  parent = ap (λ (p : ℕ → ℕ). p c) e.parent ∙ h.parent;
}

made_to : (m k : Machine) → AreAlike m k → (n : ℕ) → IsMade m n → IsMade k n
made_to m k e n h = record {
  solved = (let c = e.commit n in let s = h.solved in omega arith);
  above = λ a up. let down : IsAbove m.parent a n = up_from m k e a n up in e.commit a ∙ h.above a down ∙ sym (e.above n a down);
}

made_from : (m k : Machine) → AreAlike m k → (n : ℕ) → IsMade k n → IsMade m n
made_from m k e n h = record {
  solved = (let c = e.commit n in let s = h.solved in omega arith);
  above = λ a up. sym (e.commit a) ∙ h.above a (up_to m k e a n up) ∙ e.above n a up;
}

pub fresh_from : (m k : Machine) → AreAlike m k → (n : ℕ) → IsFresh k n → IsFresh m n
fresh_from m k e n h = record {
  made = made_from m k e n h.made;
  below = λ c child. ap (λ (q : ℕ → ℕ). q c) (sym e.number) ∙ h.below c (child_to m k e n c child) ∙ e.below n c child;
}

pub fresh_to : (m k : Machine) → AreAlike m k → (n : ℕ) → IsFresh m n → IsFresh k n
fresh_to m k e n h = record {
  made = made_to m k e n h.made;
  below = λ c child. let back : IsChild m n c = record {
    live = ap (λ (l : ℕ → Bool). l c) (sym e.live) ∙ child.live;
    lower = child.lower;
    parent = ap (λ (p : ℕ → ℕ). p c) (sym e.parent) ∙ child.parent;
  } in ap (λ (q : ℕ → ℕ). q c) e.number ∙ h.below c back ∙ sym (e.below n c back);
}

pub good_to : (m k : Machine) → AreAlike m k → (n : ℕ) → IsGood m n → IsGood k n
good_to m k e n h = (made_to m k e n h.0, e.point n ∙ h.1)

pub good_from : (m k : Machine) → AreAlike m k → (n : ℕ) → IsGood k n → IsGood m n
good_from m k e n h = (made_from m k e n h.0, sym (e.point n) ∙ h.1)

-- ---- what Reads leave of what was seen above
above_read : (number : ℕ → ℕ) (f : Flight) (cs : List ℕ) → (read_by_each number f cs).above ≡ f.above
above_read number f [] = refl
above_read number f (c ∷ cs) = above_read number (read_by f c (number c)) cs

-- ---- the commit
commit_is_turn : (m k : Machine) (w : ℕ) (f : Flight) (cs : List ℕ) (p : Bool) → IsValid m → IsFair m → IsValid k → IsIdle k → AreAlike m k
    → IsFlown m f.node w f → ReadsArePresent m f → AreChildren k f.node cs → IsATurn m k w f cs p
commit_is_turn m k w f cs p valid fair valid_k idle e mine present children = record { may = may; alike = alike }
  where
    n : ℕ
    n = f.node

    may : MayBegin k n
    may = record {
      live = ap (λ (l : ℕ → Bool). l n) e.live ∙ valid.flown_live n w f mine;
      stale = λ fresh. valid.flown_stale n w f mine (fresh_from m k e n fresh);
      idle = λ (v, (g, h)). none_some g (sym (idle v) ∙ h.flight);
      above = λ a up. good_to m k e a (fair.good n w f mine a (up_from m k e a n up));
    }

    reads : AreReads (begun k 0 n) (first_flight k n) cs (read_each (begun k 0 n) (first_flight k n) cs)
    reads = reads_are (begun k 0 n) (first_flight k n) cs (valid_begun k 0 n valid_k (idle 0) may) (same_at k.flight 0 _ 0 refl)

    r : Flight
    r = read_by_each k.number (first_flight k n) cs

    r_node : r.node ≡ n
    r_node = node_read k.number (first_flight k n) cs

    new : Machine
    new = turned_at k n cs p

    old : Machine
    old = committed m w f p

    mine_new : Last
    mine_new = record { commit = (read_each (begun k 0 n) (first_flight k n) cs).commits + 1; point = p; above = r.above; below = r.below }

    mine_old : Last
    mine_old = record { commit = m.commits + 1; point = p; above = f.above; below = f.below }

    new_here : (j : ℕ) → j ≡ n → new.last j ≡ mine_new
    new_here j q = same_at (read_each (begun k 0 n) (first_flight k n) cs).last r.node mine_new j (q ∙ sym r_node)

    new_there : (j : ℕ) → (j ≡ n → ⊥) → new.last j ≡ k.last j
    new_there j q = other_at (read_each (begun k 0 n) (first_flight k n) cs).last r.node mine_new j (λ x. q (x ∙ r_node))
        ∙ ap (λ (l : ℕ → Last). l j) reads.last

    old_here : (j : ℕ) → j ≡ n → old.last j ≡ mine_old
    old_here j q = same_at m.last n mine_old j q

    old_there : (j : ℕ) → (j ≡ n → ⊥) → old.last j ≡ m.last j
    old_there j q = other_at m.last n mine_old j q

    commits : (read_each (begun k 0 n) (first_flight k n) cs).commits ≡ m.commits
    commits = reads.commits ∙ e.commits

    commit_at : (j : ℕ) → (j ≡ n) ⊎ (j ≡ n → ⊥) → (new.last j).commit ≡ (old.last j).commit
    commit_at j (inl q) = ap (λ (l : Last). l.commit) (new_here j q) ∙ ap (λ (x : ℕ). x + 1) commits ∙ ap (λ (l : Last). l.commit) (sym (old_here j q))
    commit_at j (inr q) = ap (λ (l : Last). l.commit) (new_there j q) ∙ e.commit j ∙ ap (λ (l : Last). l.commit) (sym (old_there j q))

    point_at : (j : ℕ) → (j ≡ n) ⊎ (j ≡ n → ⊥) → (new.last j).point ≡ (old.last j).point
    point_at j (inl q) = ap (λ (l : Last). l.point) (new_here j q) ∙ ap (λ (l : Last). l.point) (sym (old_here j q))
    point_at j (inr q) = ap (λ (l : Last). l.point) (new_there j q) ∙ e.point j ∙ ap (λ (l : Last). l.point) (sym (old_there j q))

    above_at : (j a : ℕ) → IsAbove m.parent a j → (j ≡ n) ⊎ (j ≡ n → ⊥) → (new.last j).above a ≡ (old.last j).above a
    above_at j a up (inl q) =
        ap (λ (l : Last). l.above a) (new_here j q) ∙ ap (λ (s : ℕ → ℕ). s a) (above_read k.number (first_flight k n) cs) ∙ e.commit a
        ∙ sym (fair.above n w f mine a (subst (λ (x : ℕ). IsAbove m.parent a x) q up)) ∙ ap (λ (l : Last). l.above a) (sym (old_here j q))
    above_at j a up (inr q) = ap (λ (l : Last). l.above a) (new_there j q) ∙ e.above j a up ∙ ap (λ (l : Last). l.above a) (sym (old_there j q))

    below_here : (c : ℕ) → IsChild m n c → r.below c ≡ f.below c
    below_here c child =
        let in_list : Contains cs c = (children c).0 (child_to m k e n c child) in
        below_read k.number (first_flight k n) cs c in_list.0 in_list.1 in_list.2 ∙ ap (λ (q : ℕ → ℕ). q c) e.number ∙ sym (present c child)

    below_at : (j c : ℕ) → IsChild m j c → (j ≡ n) ⊎ (j ≡ n → ⊥) → (new.last j).below c ≡ (old.last j).below c
    below_at j c child (inl q) =
        ap (λ (l : Last). l.below c) (new_here j q) ∙ below_here c (subst (λ (x : ℕ). IsChild m x c) q child) ∙ ap (λ (l : Last). l.below c) (sym (old_here j q))
    below_at j c child (inr q) = ap (λ (l : Last). l.below c) (new_there j q) ∙ e.below j c child ∙ ap (λ (l : Last). l.below c) (sym (old_there j q))

    alike : AreAlike old new
    alike = record {
      live = reads.live ∙ e.live;
      parent = reads.parent ∙ e.parent;
      run = reads.run ∙ e.run;
      commits = ap (λ (x : ℕ). x + 1) commits;
      number = reads.number ∙ e.number;
      commit = λ j. commit_at j (cases_eq j n);
      point = λ j. point_at j (cases_eq j n);
      above = λ j a up. above_at j a up (cases_eq j n);
      below = λ j c child. below_at j c (record { live = child.live; lower = child.lower; parent = child.parent }) (cases_eq j n);
    }

pub commit_turns : CommitsAreTurns
commit_turns = commit_is_turn

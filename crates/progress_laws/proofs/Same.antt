-- Two idle machines of desks with the same table agree on what the table tells.
use Rattle.std.proofs.Common.{◌≡◌, ℕ, ◌<◌, Bool, arith, sym, ap, subst, ◌∙◌}
use Rattle.scen_defs.specs.Program.{Program}
use Rattle.pass_table.specs.declared.table.Table.{Table}
use Rattle.pass_table.specs.Machine.{IsAbove, Last, Machine, IsLive, IsMade, IsGood, IsComplete, IsValid}
use Rattle.pass_table.specs.Fits.{Fits, lists_of, AreRead}
use Rattle.pass_table.proofs.Agree.{made_is, made_at}
use Rattle.crew_turns.specs.Alike.{AreAlike}
use Rattle.crew_turns.proofs.Turned.{child_to}
use Rattle.crew_turns.proofs.Crewing.{child_from}
use Rattle.crew_turns.proofs.Beside.{live_from, fit_besides}
use Rattle.pass_core.specs.declared.state.State.{State}
use Rattle.pass_core.specs.Desks.{IsDesk}
use Rattle.scen_tree.specs.Trees.{Tree}
use Rattle.progress_laws.proofs.Standing.{Known, known_of, HasLast, HasNone, StandsBy}

-- what two machines of one state agree on at a live node
pub record Agree (m k : Machine) (n : ℕ) : Type 0 where
  pub commit : (k.last n).commit ≡ (m.last n).commit
  pub point : (k.last n).point ≡ (m.last n).point
  pub made : IsMade k n → IsMade m n
  pub read : 0 < (k.last n).commit → AreRead k n → AreRead m n

pub live_too : (p : Program) (s : State) (m k : Machine) → IsDesk p s m → IsDesk p s k → (n : ℕ) → IsLive k n → IsLive m n
live_too p s m k tm tk n l = tm.machine.live n ∙ sym (tk.machine.live n) ∙ l

-- two machines that know the same
alike_back : (m k : Machine) → AreAlike m k → AreAlike k m
alike_back m k e = record {
  live = sym e.live;
  parent = sym e.parent;
  run = sym e.run;
  commits = sym e.commits;
  number = sym e.number;
  commit = λ n. sym (e.commit n);
  point = λ n. sym (e.point n);
  above = λ n a up. sym (e.above n a (subst (λ (f : ℕ → ℕ). IsAbove f a n) e.parent up));
  below = λ n c child. sym (e.below n c (child_from m k e n c child));
}

agree_alike : (m k : Machine) → AreAlike m k → (n : ℕ) → Agree m k n
agree_alike m k e n = record {
  commit = e.commit n;
  point = e.point n;
  made = λ h. record {
    solved = omega (arith, e.commit n, h.solved);
    above = λ a up. sym (e.commit a) ∙ h.above a (subst (λ (f : ℕ → ℕ). IsAbove f a n) (sym e.parent) up) ∙ e.above n a up;
  };
  read = λ z r c child. ap (λ (f : ℕ → ℕ). f c) (sym e.number) ∙ r c (child_to m k e n c child) ∙ e.below n c child;
}

agree_through : (a b c : Machine) (n : ℕ) → Agree a b n → Agree b c n → Agree a c n
agree_through a b c n g h = record {
  commit = h.commit ∙ g.commit;
  point = h.point ∙ g.point;
  made = λ made. g.made (h.made made);
  read = λ z r. g.read (omega (arith, z, h.commit)) (h.read z r);
}

-- two that the table fits
agree_fits : (t : Table) (m k : Machine) → IsValid m → IsValid k → Fits t m → Fits t k → (n : ℕ) → IsLive m n → IsLive k n → Agree m k n
agree_fits t m k valid_m valid_k fm fk n lm lk =
    let am = fm.agrees in
    let ak = fk.agrees in record {
      commit = sym (ak.commit n lk) ∙ am.commit n lm;
      point = sym (ak.point n lk) ∙ am.point n lm;
      made = λ h. made_is (lists_of t) m valid_m am n lm (made_at (lists_of t) k valid_k ak n lk h);
      read = λ z r. (am.low n lm (omega (arith, z, ak.commit n lk, am.commit n lm))).0 ((ak.low n lk z).1 r);
    }

pub agree : (p : Program) (s : State) (m k : Machine) → IsDesk p s m → IsDesk p s k → (n : ℕ) → IsLive k n → Agree m k n
agree p s m k tm tk n l =
    let fm : Machine = tm.fits.flying in
    let fk : Machine = tk.fits.flying in
    agree_through m fk k n
    (agree_through m fm fk n (agree_alike m fm (alike_back fm m tm.fits.alike) n)
    (agree_fits s.table fm fk tm.fits.valid tk.fits.valid tm.fits.fits tk.fits.fits n
    (live_from fm m tm.fits.alike n (live_too p s m k tm tk n l)) (live_from fk k tk.fits.alike n l)))
    (agree_alike fk k tk.fits.alike n)

pub complete_too : (p : Program) (s : State) (m k : Machine) → IsDesk p s m → IsDesk p s k → IsComplete k → IsComplete m
complete_too p s m k tm tk c = (fit_besides.complete s.table m tm.fits).0 ((fit_besides.complete s.table k tk.fits).1 c)

-- what stands by the one stands by the other, where they agree at live nodes
pub stands_alike : (p : Program) (tree : Tree) (w : Known) (m k : Machine) → ((n : ℕ) → IsLive k n → IsLive m n)
    → ((n : ℕ) → IsLive k n → Agree m k n) → (IsComplete k → IsComplete m) → StandsBy p tree w m → StandsBy p tree w k
stands_alike p tree w m k live agrees complete h = record {
  lasts = λ n l c q.
      let a : Agree m k n = agrees n l in
      let b : HasLast p w m n = h.lasts n (live n l) (omega (arith, a.commit, c)) (sym a.point ∙ q) in
      record {
        last = b.last;
        there = b.there;
        task = b.task;
        value = b.value;
        cut = b.cut;
        answer = b.answer;
        fits = b.fits;
        kind = b.kind;
        datum = b.datum;
        along = b.along;
        trial = λ z. b.trial (a.made z);
        cuts = λ z. b.cuts (a.read c z);
        offered = b.offered;
        lower = b.lower;
        root = b.root;
      };
  nones = λ n l c q.
      let a : Agree m k n = agrees n l in
      let b : HasNone p w m n = h.nones n (live n l) (omega (arith, a.commit, c)) (sym a.point ∙ q) in
      record { trial = b.trial; made = λ z. b.made (a.made z); offered = b.offered; root = b.root };
  ends = h.ends;
  complete = λ c. h.complete (complete c);
  policy = h.policy;
  grounds = h.grounds;
}

-- so do two that a table fits
pub stands_too : (p : Program) (tree : Tree) (s : State) (m k : Machine) → IsDesk p s m → IsDesk p s k → StandsBy p tree (known_of s) m
    → StandsBy p tree (known_of s) k
stands_too p tree s m k tm tk h =
    stands_alike p tree (known_of s) m k (live_too p s m k tm tk) (agree p s m k tm tk) (complete_too p s m k tm tk) h

-- and two with the same last solves and the same numbers of pools
pub stands_still : (p : Program) (tree : Tree) (w : Known) (m k : Machine) → k.live ≡ m.live → k.parent ≡ m.parent → k.last ≡ m.last
    → ((n : ℕ) → k.number n ≡ m.number n) → StandsBy p tree w m → StandsBy p tree w k
stands_still p tree w m k live parent last number h =
    stands_alike p tree w m k (λ n l. lives n l) (λ n l. record {
      commit = ap (λ (f : ℕ → Last). (f n).commit) last;
      point = ap (λ (f : ℕ → Last). (f n).point) last;
      made = λ z. made n z;
      read = λ c r. read n r;
    }) (λ c n l. let g : IsGood k n = c n (ap (λ (f : ℕ → Bool). f n) live ∙ l) in (made n g.0, ap (λ (f : ℕ → Last). (f n).point) (sym last) ∙ g.1)) h
  where
    lives : (n : ℕ) → IsLive k n → IsLive m n
    lives n l = ap (λ (f : ℕ → Bool). f n) (sym live) ∙ l

    made : (n : ℕ) → IsMade k n → IsMade m n
    made n z = record {
      solved = subst (λ (f : ℕ → Last). 0 < (f n).commit) last z.solved;
      above = λ a up. ap (λ (f : ℕ → Last). (f a).commit) (sym last) ∙ z.above a (subst (λ (f : ℕ → ℕ). IsAbove f a n) (sym parent) up)
          ∙ ap (λ (f : ℕ → Last). (f n).above a) last;
    }

    read : (n : ℕ) → AreRead k n → AreRead m n
    read n r c child = sym (number c) ∙ r c (record {
      live = ap (λ (f : ℕ → Bool). f c) live ∙ child.live;
      lower = child.lower;
      parent = ap (λ (f : ℕ → ℕ). f c) parent ∙ child.parent;
    }) ∙ ap (λ (f : ℕ → Last). (f n).below c) last

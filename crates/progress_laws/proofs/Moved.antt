-- A node's last solve stands on, where another node is solved.
use Rattle.std.proofs.Common.{◌≡◌, ℕ, zero, suc, ◌+◌, ◌⊎◌, inl, inr, Bool, List, [], ◌∷◌, Option, Some, None, get_or, slice_index, slice_get, refl, sym, ap, subst, ◌∙◌, arith}
use Rattle.std.specs.List.{Contains}
use Rattle.std.proofs.lemmas.Bool.{cases_eq}
use Rattle.rationals.specs.Rational.{◌≤ℚ◌, le_refl_ℚ, le_trans_ℚ}
use Rattle.scen_defs.specs.Program.{Program}
use Rattle.scen_defs.specs.declared.report.Kind.{Kind}
use Rattle.scen_defs.specs.declared.report.Kind.TheVariants.{Cost}
use Rattle.cut_defs.specs.Stored.{Stored}
use Rattle.cut_pool.specs.Held.{Held}
use Rattle.cut_banks.specs.declared.banks.Banks.{Banks}
use Rattle.cut_banks.specs.Banks.{pools_of}
use Rattle.cut_banks.specs.Pools.{numbers_of, cuts_read}
use Rattle.pass_table.specs.Machine.{next, Last as LastOf, Machine, IsLive, IsChild, IsMade, IsValid}
use Rattle.pass_table.specs.Fits.{AreRead}
use Rattle.crew_turns.specs.Turn.{AreChildren}
use Rattle.node_data.specs.declared.versions.Version.{Version}
use Rattle.node_data.specs.Frames.{Frame, parent_in, children_in}
use Rattle.found_ends.specs.declared.last.Last.{Last}
use Rattle.found_ends.specs.declared.ends.Bounded.{Bounded}
use Rattle.found_ends.specs.declared.ends.Ends.{Ends}
use Rattle.found_ends.specs.Lasts.{last_at, trial_of}
use Rattle.progress_laws.proofs.Standing.{Known, HasMember, IsAtLeast, IsAbove as IsRayAbove, ShowsNone, HasLast, HasNone}
use Rattle.progress_laws.proofs.Turned.{IsTurned, made_before}
use Rattle.pass_core.proofs.Apart.{trial_same, reads_same}
use Rattle.progress_laws.proofs.Places.{PoolsGo, member_goes}

abbrev pub known : Kind → Frame → List Version → List (Option Last) → Banks → Ends → Known
known kind frame versions lasts banks ends =
    record { kind = kind; frame = frame; versions = versions; lasts = lasts; banks = banks; ends = ends }

-- the root's cut stays, and the lower end stays or rises
pub record RootGoes (kind : Kind) (old new : Ends) : Type 0 where
  pub root : new.root ≡ old.root
  pub lower : kind ≡ Cost → (b : Bounded) → old.lower ≡ Some b → (c : Bounded) × ((new.lower ≡ Some c) × (b.value ≤ℚ c.value))

pub root_stays : (kind : Kind) (old new : Ends) → new.root ≡ old.root → new.lower ≡ old.lower → RootGoes kind old new
root_stays kind old new r e = record { root = r; lower = λ cost b h. (b, (e ∙ h, le_refl_ℚ b.value)) }

-- what shows that there is no point stays or is replaced by another such cut
abbrev pub NowhereGoes : Ends → Ends → Type 0
NowhereGoes old new = (c : Stored) → old.nowhere ≡ Some c → ShowsNone c → (d : Stored) × ((new.nowhere ≡ Some d) × ShowsNone d)

module _ (p : Program) (kind : Kind) (frame : Frame) (versions : List Version) (la lb : List (Option Last)) (ba bb : Banks) (ea eb : Ends) where
  pub moved : (m k : Machine) (j : ℕ) → last_at lb j ≡ last_at la j
      → (IsMade k j → IsMade m j × (trial_of lb (parent_in frame j) ≡ trial_of la (parent_in frame j)))
      → (AreRead k j → AreRead m j × (cuts_read (pools_of kind bb) (children_in frame j) ≡ cuts_read (pools_of kind ba) (children_in frame j)))
      → ((P : Stored → Type 0) → HasMember (pools_of kind ba) j P → HasMember (pools_of kind bb) j P)
      → (j ≡ 0 → RootGoes kind ea eb) → HasLast p (known kind frame versions la ba ea) m j
      → HasLast p (known kind frame versions lb bb eb) k j
  moved m k j same made read grows goes h = record {
    last = h.last;
    there = same ∙ h.there;
    task = h.task;
    value = h.value;
    cut = h.cut;
    answer = h.answer;
    fits = h.fits;
    kind = h.kind;
    datum = h.datum;
    along = h.along;
    trial = λ q. let b = made q in h.trial b.0 ∙ sym b.1;
    cuts = λ q. let b = read q in h.cuts b.0 ∙ sym b.1;
    offered = λ low c e. grows (IsAtLeast h.task.trial h.value) (h.offered low c e);
    lower = λ cost z. let a = h.lower cost z in let b = (goes z).lower cost a.0 a.1.0 in (b.0, (b.1.0, le_trans_ℚ a.1.1 b.1.1));
    root = λ k z. let a = h.root k z in (a.0, ((goes z).root ∙ a.1.0, a.1.1, a.1.2));
  }

  pub moved_none : (m k : Machine) (j : ℕ) → (IsMade k j → IsMade m j × (trial_of lb (parent_in frame j) ≡ trial_of la (parent_in frame j)))
      → ((P : Stored → Type 0) → HasMember (pools_of kind ba) j P → HasMember (pools_of kind bb) j P)
      → NowhereGoes ea eb
      → HasNone p (known kind frame versions la ba ea) m j → HasNone p (known kind frame versions lb bb eb) k j
  moved_none m k j made grows nowhere h = record {
    trial = h.trial;
    made = λ q. let b = made q in h.made b.0 ∙ sym b.1;
    offered = λ low. grows (IsRayAbove h.trial) (h.offered low);
    root = λ z. let a = h.root z in nowhere a.0 a.1.0 a.1.1;
  }

  -- behind a turn of another node
  module _ (m k : Machine) (n : ℕ) (point : Bool) (valid : IsValid m) (turn : IsTurned m k n point)
      (parents : m.parent ≡ slice_index frame.parents)
      (before : (i : ℕ) → m.number i ≡ get_or (numbers_of (pools_of kind ba)) i 0)
      (behind : (i : ℕ) → k.number i ≡ get_or (numbers_of (pools_of kind bb)) i 0)
      (children : (j : ℕ) → IsLive m j → AreChildren m j (children_in frame j))
      (lasts : (i : ℕ) → (i ≡ n → ⊥) → last_at lb i ≡ last_at la i)
      (pools : PoolsGo (pools_of kind ba) (pools_of kind bb) n)
      (goes : (j : ℕ) → (j ≡ n → ⊥) → j ≡ 0 → RootGoes kind ea eb)
      (nowhere : NowhereGoes ea eb) where
    trial_moves : (j : ℕ) → (j ≡ n → ⊥) → IsMade k j → IsMade m j × (trial_of lb (parent_in frame j) ≡ trial_of la (parent_in frame j))
    trial_moves j ne made =
        let b = made_before m k n j point valid turn ne made in
        (b.0, trial_same la lb frame n j lasts (λ low e. b.1 (next j low (ap (λ (f : ℕ → ℕ). f j) parents ∙ e))))

    -- a pool that was read and has the number that was read then is as it was
    unchanged : (j c : ℕ) → IsLive m j → (j ≡ n → ⊥) → AreRead k j → Contains (children_in frame j) c
        → slice_get (pools_of kind bb) c ≡ slice_get (pools_of kind ba) c
    unchanged j c live ne read i = go (cases_eq c n)
      where
        child : IsChild m j c
        child = (children j live c).1 i

        child_behind : IsChild k j c
        child_behind = record {
          live = ap (λ (f : ℕ → Bool). f c) turn.live ∙ child.live;
          lower = child.lower;
          parent = ap (λ (f : ℕ → ℕ). f c) turn.parent ∙ child.parent;
        }

        seen : k.number c ≡ (m.last j).below c
        seen = read c child_behind ∙ ap (λ (l : LastOf). l.below c) (turn.others j ne)

        own : c ≡ n → (slice_get (pools_of kind bb) n ≡ slice_get (pools_of kind ba) n)
            ⊎ (get_or (numbers_of (pools_of kind bb)) n 0 ≡ get_or (numbers_of (pools_of kind ba)) n 0 + 1)
            → slice_get (pools_of kind bb) c ≡ slice_get (pools_of kind ba) c
        own e (inl same) = subst (λ (x : ℕ). slice_get (pools_of kind bb) x ≡ slice_get (pools_of kind ba) x) (sym e) same
        own e (inr rose) =
            let kn : k.number c ≡ get_or (numbers_of (pools_of kind bb)) n 0 = behind c ∙ ap (λ (x : ℕ). get_or (numbers_of (pools_of kind bb)) x 0) e in
            let mn : m.number c ≡ get_or (numbers_of (pools_of kind ba)) n 0 = before c ∙ ap (λ (x : ℕ). get_or (numbers_of (pools_of kind ba)) x 0) e in
            absurd (omega (arith, seen, valid.was_read j c, kn, mn, rose))

        go : (c ≡ n) ⊎ (c ≡ n → ⊥) → slice_get (pools_of kind bb) c ≡ slice_get (pools_of kind ba) c
        go (inl e) = own e pools.own
        go (inr other) = pools.others c other

    read_moves : (j : ℕ) → IsLive m j → (j ≡ n → ⊥) → AreRead k j
        → AreRead m j × (cuts_read (pools_of kind bb) (children_in frame j) ≡ cuts_read (pools_of kind ba) (children_in frame j))
    read_moves j live ne read = (
      (λ c child. go c child),
      reads_same (pools_of kind ba) (pools_of kind bb) (children_in frame j) (λ c i. unchanged j c live ne read i),
    )
      where
        numbers : (old new : List Held) (c : ℕ) → slice_get new c ≡ slice_get old c → get_or (numbers_of new) c 0 ≡ get_or (numbers_of old) c 0
        numbers old new c e = number_got new c ∙ ap (λ (o : Option Held). number_in o) e ∙ sym (number_got old c)
          where
            number_in : Option Held → ℕ
            number_in None = 0
            number_in (Some p) = p.number

            number_got : (ps : List Held) (c : ℕ) → get_or (numbers_of ps) c 0 ≡ number_in (slice_get ps c)
            number_got [] c = refl
            number_got (p ∷ ps) zero = refl
            number_got (p ∷ ps) (suc c) = number_got ps c

        go : (c : ℕ) → IsChild m j c → m.number c ≡ (m.last j).below c
        go c child =
            let behind_child : IsChild k j c = record {
              live = ap (λ (f : ℕ → Bool). f c) turn.live ∙ child.live;
              lower = child.lower;
              parent = ap (λ (f : ℕ → ℕ). f c) turn.parent ∙ child.parent;
            } in
            before c ∙ sym (numbers (pools_of kind ba) (pools_of kind bb) c (unchanged j c live ne read ((children j live c).0 child)))
            ∙ sym (behind c) ∙ read c behind_child ∙ ap (λ (l : LastOf). l.below c) (turn.others j ne)

    pub turns_leave : (j : ℕ) → IsLive m j → (j ≡ n → ⊥) → HasLast p (known kind frame versions la ba ea) m j
        → HasLast p (known kind frame versions lb bb eb) k j
    turns_leave j live ne h = moved m k j (lasts j ne) (trial_moves j ne) (read_moves j live ne) (member_goes (pools_of kind ba) (pools_of kind bb) n pools j) (goes j ne) h

    pub turns_leave_none : (j : ℕ) → (j ≡ n → ⊥) → HasNone p (known kind frame versions la ba ea) m j
        → HasNone p (known kind frame versions lb bb eb) k j
    turns_leave_none j ne h = moved_none m k j (trial_moves j ne) (member_goes (pools_of kind ba) (pools_of kind bb) n pools j) nowhere h

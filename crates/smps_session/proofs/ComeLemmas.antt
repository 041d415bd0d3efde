-- How a report comes of the method.
use Rattle.std.proofs.Common.{◌≡◌, ◌<◌, ◌≤◌, ℕ, ◌+◌, ◌^◌, ◌⊎◌, inl, inr, ◌&&◌, not, Bool, true, false, Result, Ok, Err, IfOk, refl, sym, ap, subst, ◌∙◌, arith}
use Rattle.std.proofs.lemmas.Bool.{leb-true, leb-false}
use Rattle.scen_defs.specs.Program.{Program as Started, content, view_of}
use Rattle.scen_tree.specs.Trees.{Tree}
use Rattle.report_defs.specs.Truth.{Explains, IsTrue}
use Rattle.scen_defs.specs.declared.program.Program.{Program}
use Rattle.scen_defs.specs.declared.report.Finding.{Finding}
use Rattle.scen_defs.specs.declared.report.Finding.TheVariants.{Optimal, Infeasible, Unbounded, OpenSolves, OpenPivots, OpenPassed}
use Rattle.scen_defs.specs.declared.report.Place.{Place}
use Rattle.scen_defs.specs.declared.report.Place.TheVariants.{Solve, Cut, Cost, Ground, Dual}
use Rattle.scen_defs.specs.declared.report.Report.{Report}
use Rattle.proved_report.specs.declared.claim.Claim.{Claim}
use Rattle.proved_report.specs.declared.claim.Claim.TheVariants.{Ends, Nowhere, Endless}
use Rattle.proved_report.specs.declared.open.Open.{Open}
use Rattle.proved_report.specs.declared.open.Open.TheVariants.{Pivots, Passed as PassedAt}
use Rattle.proved_report.specs.Open.{given}
use Rattle.proved_report.specs.Reports.{IsClaimed}
use Rattle.claim_laws.specs.Held.{PassesInClaim}
use Rattle.claim_laws.specs.Tells.{IsFindingOf, TellsClaim}
use Rattle.claim_laws.proofs.Telling.{claims_are_told}
use Rattle.node_lp.specs.declared.solved.Solved.TheVariants.{PivotsEnded, Passed}
use Rattle.rationals.specs.Passes.{Operation}
use Rattle.pass_core.specs.declared.budget.Budget.{Budget}
use Rattle.pass_core.specs.declared.state.Counts.{Counts}
use Rattle.pass_core.specs.declared.state.State.{State}
use Rattle.pass_core.specs.Explained.{AreExplained}
use Rattle.found_ends.specs.Claims.{EndsAssembly}
use Rattle.pass_core.specs.Beginning.{IsBeginning}
use Rattle.pass_core.specs.Counting.{no_commits, one_solve_more}
use Rattle.nested_method.specs.declared.found.Found.{Found}
use Rattle.nested_method.specs.declared.method.Method.{Method}
use Rattle.nested_method.specs.declared.method.Method.TheVariants.{Working as AtWork, Idle}
use Rattle.nested_method.specs.declared.method.Working.{Working}
use Rattle.nested_method.specs.Stands.{HasFewNodes, WorksOn, StandsOn, Begins, HasSolve, StandsCleared, EndsAt, closing}
use Rattle.nested_method.specs.Stands.{CutPasses, CostPasses, OpeningPasses, FindsBySolves, WorksAnew, WorksBySteps, is_spent, after_telling}
use Rattle.nested_method.proofs.StandLemmas.{more_counted, solves_behind}
use Rattle.nested_method.proofs.Numbers.{pivots_arise, pass_arises, cut_arises, cost_arises, opening_arises, closing_pivots, closing_passed}
use Rattle.nested_method.proofs.Numbers.{closing_dual, told_cleared}
use Rattle.progress_laws.specs.Ways.{AreFew, IsOnWay}
use Rattle.progress_laws.proofs.Finished.{ends_are_finished}
use Rattle.progress_laws.specs.Courses.{here, by_solves}
use Rattle.progress_laws.proofs.Course.{beginning_opens}
use Rattle.progress_laws.proofs.Ways.{solves_keep_way, ways_have_numbers, begun_counts}
use Rattle.progress_laws.proofs.WhereMet.{reasons_were_met}
use Rattle.smps_session.specs.Reasons.{told_reasons}
use Rattle.smps_session.specs.Comes.{tells_solves, is_unfinished, ShowsClosing, ShowsFound, PassesInTestOf, WasReason, ComesOf, ComesOfAll, IsUnderWay}
use Rattle.smps_session.specs.Shorter.{IsPrinted}
use Rattle.smps_session.specs.declared.whole.StatedLimits.{StatedLimits}
use Rattle.smps_session.specs.declared.whole.Answered.{Answered}
use Rattle.smps_session.proofs.OneRun.{one_run}
use Rattle.smps_session.proofs.WayLemmas.{counted_within}

-- ---- what is found and tested
told_so : (program : Program) (number solves : ℕ) (place place' : Place) (why why' : Open) (claim claim' : Claim) (report : Report)
    → place ≡ place' → why ≡ why' → claim ≡ claim' → IsClaimed program number place why solves claim report
    → TellsClaim program place' why' solves claim' report
told_so program number solves place place' why why' claim claim' report p w k c =
    subst (λ (x : Claim). TellsClaim program place' why' solves x report) k
    (subst (λ (x : Open). TellsClaim program place' x solves claim report) w
    (subst (λ (x : Place). TellsClaim program x why solves claim report) p (claims_are_told program number place why solves claim report c)))

shows_one : (budget : Budget) (start : Started) (came : ℕ) (program : Program) (old new : Method) (found : Found) (number : ℕ) (report : Report)
    → FindsBySolves (content program) old new found → EndsAt (content program) new → WorksBySteps (content program) old new
    → IsClaimed program number found.place found.why budget.solves found.claim report
    → IsTrue (view_of (content program)) (given found.why budget.solves) report → StandsOn (content program) budget old
    → ShowsFound budget start came program old new report
shows_one budget start came program (AtWork old) (AtWork new) found number report f ends steps c t stands = record {
  solves = f.solves.solves;
  once = λ widths few. f.solves.never;
  first = λ small begins uncounted. f.solves.never;
  run = λ widths few. one_run (content program) old.state new.state (λ m tabled. steps m program.keeps stands.frame tabled);
  ends = ends;
  claimed = told_so program number budget.solves found.place _ found.why _ found.claim _ report f.place f.why f.claim c;
  truth = subst (λ (why : Open). IsTrue (view_of (content program)) (given why budget.solves) report) f.why t;
}
shows_one budget start came program (AtWork old) (Idle why own) found number report f ends steps c t stands = f
shows_one budget start came program (Idle why own) new found number report f ends steps c t stands = steps

pub shows_found : {E : Type 0} (budget : Budget) (start : Started) (came : ℕ) (program : Program) (old new : Method) (found : Found) (number : ℕ)
    (result : Result Report E)
    → FindsBySolves (content program) old new found → EndsAt (content program) new → WorksBySteps (content program) old new
    → IfOk result (IsClaimed program number found.place found.why budget.solves found.claim)
    → IfOk result (IsTrue (view_of (content program)) (given found.why budget.solves)) → StandsOn (content program) budget old
    → IfOk result (ShowsFound budget start came program old new)
shows_found budget start came program old new found number (Ok report) f ends steps c t stands =
    shows_one budget start came program old new found number report f ends steps c t stands
shows_found budget start came program old new found number (Err e) f ends steps c t stands = tt

-- ---- a program that is begun anew until its solves have ended
-- so many solves at least are counted
abbrev pub HasCounted : ℕ → Method → Type 0
HasCounted k (AtWork w) = k ≤ w.state.counts.since_report
HasCounted k (Idle why own) = Unit {0}

pub first_counts : (method : Method) → HasCounted 0 method
first_counts (AtWork w) = omega arith
first_counts (Idle why own) = tt

is_left : (finding : Finding) (method : Method) → is_unfinished finding method ≡ true
    → (tells_solves finding ≡ true) × (is_spent method ≡ false)
is_left finding method e = go (tells_solves finding) (is_spent method) refl refl e
  where
    go : (b spent : Bool) → tells_solves finding ≡ b → is_spent method ≡ spent → (b && not spent) ≡ true
        → (tells_solves finding ≡ true) × (is_spent method ≡ false)
    go true true t s e = absurd (let no : false ≡ true = e in cc)
    go true false t s e = (t, s)
    go false spent t s e = absurd (let no : false ≡ true = e in cc)

pub left_over : (finding : Finding) (method : Method) (told : Bool) → told ≡ is_unfinished finding method → told ≡ true
    → (tells_solves finding ≡ true) × (is_spent method ≡ false)
left_over finding method told e t = is_left finding method (sym e ∙ t)

pub counts_fewer : (k j : ℕ) (method : Method) → j ≤ k → HasCounted k method → HasCounted j method
counts_fewer k j (AtWork w) less h = omega (arith, less, h)
counts_fewer k j (Idle why own) less h = tt

-- a report to which the method comes on its way isn't left over
never_left : (budget : Budget) (start : Started) (came : ℕ) (program : Program) (old : State) (mid : Working) (report : Report)
    → HasFewNodes (content program) → WorksOn (content program) budget mid
    → ShowsClosing budget start came program old mid.state report → AreFew budget came → IsOnWay budget came (content program) old
    → (n : ℕ) → report.finding ≡ OpenSolves n → mid.state.budget.solves ≤ mid.state.counts.since_report
never_left budget start came program old mid report few stands shows items way n told =
    let p = content program in
    let here : IsOnWay budget came p mid.state = solves_keep_way budget came p old mid.state shows.solves way in
    let same : mid.tree ≡ here.run.tree = cc (stands.tree, here.run.walk) in
    ends_are_finished program mid.state (Cost mid.state.counts.all) budget.solves report n
    (record {
      run = here.run;
      numbers = ways_have_numbers budget came p mid.state items here (counted_within budget p mid program.keeps few stands);
      ends = shows.ends;
      explained = subst (λ (tree : Tree). AreExplained p tree mid.state) same stands.explained;
      tabled = stands.tabled program.keeps few;
    })
    shows.claimed told

-- nor is the first report of a program that begins
never_left_first : (budget : Budget) (start : Started) (came : ℕ) (program : Program) (old : State) (mid : Working) (report : Report)
    → HasFewNodes (content program) → WorksOn (content program) budget mid
    → ShowsClosing budget start came program old mid.state report → budget.solves < 2 ^ 63 → IsBeginning (content program) budget old
    → old.counts ≡ no_commits → (n : ℕ) → report.finding ≡ OpenSolves n → mid.state.budget.solves ≤ mid.state.counts.since_report
never_left_first budget start came program old mid report few stands shows small begins uncounted n told =
    let p = content program in
    let all : mid.state.counts.all ≤ mid.state.counts.since_report = begun_counts budget p old mid.state begins uncounted shows.solves in
    let within : mid.state.counts.since_report ≤ budget.solves = counted_within budget p mid program.keeps few stands in
    ends_are_finished program mid.state (Cost mid.state.counts.all) budget.solves report n
    (record {
      run = record {
        program = program.keeps;
        few = few;
        tree = mid.tree;
        walk = stands.tree;
        most = 0;
        first = old;
        opens = beginning_opens p 0 budget old begins;
        goes = by_solves old mid.state here shows.solves;
      };
      numbers = omega (arith, all, within, small);
      ends = shows.ends;
      explained = stands.explained;
      tabled = stands.tabled program.keeps few;
    })
    shows.claimed told

solves_told : (finding : Finding) → tells_solves finding ≡ true → (n : ℕ) × (finding ≡ OpenSolves n)
solves_told Optimal e = absurd (let no : false ≡ true = e in cc)
solves_told Infeasible e = absurd (let no : false ≡ true = e in cc)
solves_told Unbounded e = absurd (let no : false ≡ true = e in cc)
solves_told (OpenSolves n) e = (n, refl)
solves_told (OpenPivots k) e = absurd (let no : false ≡ true = e in cc)
solves_told (OpenPassed place o) e = absurd (let no : false ≡ true = e in cc)

-- behind one more solve, and what is found then
pub round_counts : (budget : Budget) (start : Started) (came : ℕ) (program : Program) (k : ℕ) (old mid next new : Method) (report report' : Report)
    → budget.solves < 2 ^ 64 → tells_solves report.finding ≡ true → is_spent mid ≡ false → StandsOn (content program) budget mid
    → HasFewNodes (content program) → IsUnderWay budget start came (content program) old
    → ShowsFound budget start came program old mid report → HasCounted k mid → WorksAnew (content program) mid next
    → ShowsFound budget start came program next new report' → ShowsFound budget start came program old new report' × HasCounted (k + 1) new
round_counts budget start came program k (Idle why own) mid next new report report' bits tells left stands few way shows counted works shows' =
    absurd (let no : true ≡ false = sym (ap is_spent shows) ∙ left in cc)
round_counts budget start came program k (AtWork old) (Idle why own) next new report report' bits tells left stands few way shows counted works shows' =
    absurd shows
round_counts budget start came program k (AtWork old) (AtWork mid) (Idle why own) new report report' bits tells left stands few way shows counted works shows' =
    absurd works
round_counts budget start came program k (AtWork old) (AtWork mid) (AtWork next) (Idle why own) report report' bits tells left stands few way shows counted works shows' =
    absurd shows'
round_counts budget start came program k (AtWork old) (AtWork mid) (AtWork next) (AtWork new) report report' bits tells left stands few way shows counted works shows' =
    let p = content program in
    let less : mid.state.counts.since_report < mid.state.budget.solves = leb-false mid.state.budget.solves mid.state.counts.since_report left in
    let allowed : mid.state.budget.solves ≡ budget.solves = ap (λ (b : Budget). b.solves) stands.budget_is in
    let anew = works less shows.ends in
    let raised : next.state.counts.since_report ≡ one_solve_more mid.state.counts.since_report = ap (λ (c : Counts). c.since_report) anew.counts in
    let one : next.state.counts.since_report ≡ mid.state.counts.since_report + 1 = omega (arith, raised, less, allowed, bits) in
    let bound : next.state.counts.since_report < 2 ^ 64 = omega (arith, one, less, allowed, bits) in
    let later = more_counted p next.state new.state bound shows'.solves in (
      record {
        solves = solves_behind p old.state mid.state new.state shows.solves (solves_behind p mid.state next.state new.state anew.solves shows'.solves);
        once = λ widths items.
            let n = solves_told report.finding tells in
            let spent = never_left budget start came program old.state mid report few stands shows items (way few widths items) n.0 n.1 in
            absurd (omega (arith, less, spent));
        first = λ small begins uncounted.
            let n = solves_told report.finding tells in
            let spent = never_left_first budget start came program old.state mid report few stands shows small begins uncounted n.0 n.1 in
            absurd (omega (arith, less, spent));
        run = λ widths items.
            let n = solves_told report.finding tells in
            let spent = never_left budget start came program old.state mid report few stands shows items (way few widths items) n.0 n.1 in
            absurd (omega (arith, less, spent));
        ends = shows'.ends;
        claimed = shows'.claimed;
        truth = shows'.truth;
      },
      omega (arith, counted, one, later.0),
    )

-- points are tested at this place, multipliers at Dual
test_places : (program : Program) (place : Place) (claim : Claim) (told : Place) (o : Operation) → PassesInClaim program place claim told o
    → (told ≡ place) ⊎ (told ≡ Dual)
test_places program place (Ends policy dual) told o (inl t) = inl t.0
test_places program place (Ends policy dual) told o (inr t) = inr t.0
test_places program place (Nowhere ray) told o t = inr t.0
test_places program place (Endless policy direction) told o t = inl t.0

-- where the report tells the number of solves, they have ended
abbrev pub HasEnded : Budget → Finding → Method → Type 0
HasEnded budget finding method = (tells_solves finding ≡ true → is_spent method ≡ true) ⊎ HasCounted budget.solves method

pub ended_by : (finding : Finding) (method : Method) (told : Bool) → told ≡ is_unfinished finding method → told ≡ false
    → tells_solves finding ≡ true → is_spent method ≡ true
ended_by finding method told e n t = go (tells_solves finding) (is_spent method) t (sym n ∙ e)
  where
    go : (b spent : Bool) → b ≡ true → false ≡ (b && not spent) → spent ≡ true
    go true true t e = refl
    go true false t e = absurd (let no : false ≡ true = e in cc)
    go false spent t e = absurd (let no : false ≡ true = t in cc)

all_counted : (budget : Budget) (w : Working) (finding : Finding) (n : ℕ) → w.state.budget ≡ budget → finding ≡ OpenSolves n
    → HasEnded budget finding (AtWork w) → budget.solves ≤ w.state.counts.since_report
all_counted budget w finding n b e (inr counted) = counted
all_counted budget w finding n b e (inl ended) =
    let spent = leb-true w.state.budget.solves w.state.counts.since_report (ended (ap tells_solves e)) in
    omega (arith, spent, ap (λ (x : Budget). x.solves) b)

pub comes_of : (budget : Budget) (start : Started) (came : ℕ) (program : Program) (old mid new : Method) (report : Report)
    → HasFewNodes (content program) → StandsOn (content program) budget mid → StandsCleared old → IsTrue (view_of (content program)) (told_reasons program budget) report
    → IsUnderWay budget start came (content program) old → ShowsFound budget start came program old mid report → HasEnded budget report.finding mid
    → new ≡ after_telling mid → ComesOf budget start came program old report new
comes_of budget start came program (Idle why own) mid new report few stands rests truth way shows ended e =
    e ∙ ap after_telling shows
comes_of budget start came program (AtWork old) (Idle why own) new report few stands rests truth way shows ended e = absurd shows
comes_of budget start came program (AtWork old) (AtWork mid) new report few stands rests truth way shows ended e = (
  mid,
  (
    record {
      shows = shows;
      spent = spent;
      pivots = pivots;
      passed = passed;
      cut = cut;
      cost = cost;
      ground = ground;
      dual = dual;
    },
    e,
  ),
)
  where
    told : (finding : Finding) (n : ℕ) → finding ≡ OpenSolves n → Explains (view_of (content program)) (told_reasons program budget) report finding → n ≡ budget.solves
    told finding n e t = subst (Explains (view_of (content program)) (told_reasons program budget) report) e t

    spent : (n : ℕ) → report.finding ≡ OpenSolves n → mid.state.counts.since_report ≡ n
    spent n f =
        let within = (stands.counted program.keeps few).report in
        let all = all_counted budget mid report.finding n stands.budget_is f ended in
        let allowed : mid.state.budget.solves ≡ budget.solves = ap (λ (x : Budget). x.solves) stands.budget_is in
        omega (arith, within, all, allowed, told report.finding n f truth.finding)

    pivots : (k : ℕ) → report.finding ≡ OpenPivots k → HasSolve (content program) k PivotsEnded old.state mid.state
    pivots k f =
        let why : (closing mid.state).why ≡ Pivots k =
        subst (Explains (view_of (content program)) (given (closing mid.state).why budget.solves) report) f shows.truth.finding in
        pivots_arise (content program) old.state mid.state k shows.solves rests (closing_pivots mid.state k why)

    -- an operation that is told is the reason, or one of the tests
    told_at : (place : Place) (o : Operation) → report.finding ≡ OpenPassed place o
        → ((closing mid.state).why ≡ PassedAt place o) ⊎ PassesInTestOf program mid.state place o
    told_at place o f =
        let s = mid.state in
        subst (IsFindingOf program (Cost s.counts.all) (closing s).why budget.solves (closing s).claim) f shows.claimed.finding

    passed : (k : ℕ) (o : Operation) → report.finding ≡ OpenPassed (Solve k) o → HasSolve (content program) k (Passed false o) old.state mid.state
    passed k o f =
        elim (told_at (Solve k) o f) [
          | inl w ↦ pass_arises (content program) old.state mid.state k o shows.solves rests (closing_passed mid.state (Solve k) o (λ q. cc) w)
          | inr t ↦ elim (test_places program (Cost mid.state.counts.all) (closing mid.state).claim (Solve k) o t) [
            | inl q ↦ absurd (cc)
            | inr q ↦ absurd (cc)
          ]
        ]

    cut : (k : ℕ) (o : Operation) → report.finding ≡ OpenPassed (Cut k) o
        → WasReason budget start came (content program) (PassedAt (Cut k) o) (CutPasses (content program) k o) old.state
        ⊎ CutPasses (content program) k o old.state mid.state
    cut k o f =
        elim (told_at (Cut k) o f) [
          | inl w ↦ elim (cut_arises (content program) old.state mid.state k o shows.solves
              (inl (closing_passed mid.state (Cut k) o (λ q. cc) w))) [
                | inl h ↦ inl (record {
                  reason = h;
                  met = λ widths items. reasons_were_met.cut (content program) old.state k o (way few widths items).run h;
                })
                | inr c ↦ inr c
              ]
          | inr t ↦ elim (test_places program (Cost mid.state.counts.all) (closing mid.state).claim (Cut k) o t) [
            | inl q ↦ absurd (cc)
            | inr q ↦ absurd (cc)
          ]
        ]

    cost : (k : ℕ) (o : Operation) → report.finding ≡ OpenPassed (Cost k) o
        → WasReason budget start came (content program) (PassedAt (Cost k) o) (CostPasses (content program) k o) old.state
        ⊎ CostPasses (content program) k o old.state mid.state ⊎ PassesInTestOf program mid.state (Cost k) o
    cost k o f =
        elim (told_at (Cost k) o f) [
          | inl w ↦ elim (cost_arises (content program) old.state mid.state k o shows.solves
              (inl (closing_passed mid.state (Cost k) o (λ q. cc) w))) [
                | inl h ↦ inl (record {
                  reason = h;
                  met = λ widths items. reasons_were_met.cost (content program) old.state k o (way few widths items).run h;
                })
                | inr c ↦ inr (inl c)
              ]
          | inr t ↦ inr (inr t)
        ]

    ground : (o : Operation) → report.finding ≡ OpenPassed Ground o → OpeningPasses (content program) o old.state mid.state
    ground o f =
        elim (told_at Ground o f) [
          | inl w ↦ opening_arises (content program) old.state mid.state o shows.solves rests (closing_passed mid.state Ground o (λ q. cc) w)
          | inr t ↦ elim (test_places program (Cost mid.state.counts.all) (closing mid.state).claim Ground o t) [
            | inl q ↦ absurd (cc)
            | inr q ↦ absurd (cc)
          ]
        ]

    dual : (o : Operation) → report.finding ≡ OpenPassed Dual o
        → EndsAssembly mid.state.ends o ⊎ PassesInTestOf program mid.state Dual o
    dual o f =
        elim (told_at Dual o f) [
          | inl w ↦ inl (closing_dual (content program) old.state mid.state o shows.solves rests w)
          | inr t ↦ inr t
        ]

-- and its reasons are cleared behind it
pub tells_cleared : (budget : Budget) (start : Started) (came : ℕ) (program : Program) (old mid new : Method) (report : Report) → StandsCleared old
    → ShowsFound budget start came program old mid report → new ≡ after_telling mid → StandsCleared new
tells_cleared budget start came program (Idle why own) mid new report rests shows e = subst StandsCleared (sym (e ∙ ap after_telling shows)) tt
tells_cleared budget start came program (AtWork old) (Idle why own) new report rests shows e = absurd shows
tells_cleared budget start came program (AtWork old) (AtWork mid) new report rests shows e =
    subst StandsCleared (sym e) (told_cleared (content program) old.state mid.state shows.solves rests)

pub comes_of_all : {E : Type 0} (budget : Budget) (stated : StatedLimits) (program : Program) (method next : Method) (own : Report) (result : Result Answered E)
    → Begins (content program) budget method → ComesOf budget (content program) 0 program method own next
    → IfOk result (λ answered. IsPrinted answered.by_whole stated program own answered.report)
    → IfOk result (λ answered. ComesOfAll budget stated program answered.report)
comes_of_all budget stated program method next own (Ok answered) b c w =
    record { method = method; next = next; begins = b; own = own; comes = c; by_whole = answered.by_whole; printed = w }
comes_of_all budget stated program method next own (Err e) b c w = tt

-- What is told of one report, and how the reports of a script go on and end.
use Rattle.std.proofs.Common.{◌≡◌, ◌<◌, ◌≤◌, ◌+◌, ◌-◌, ◌++◌, ℕ, List, [], ◌∷◌, length}
use Rattle.std.proofs.Common.{get_or, take, drop}
use Rattle.std.proofs.Common.{Bool, Result, Ok, Err, IfOk, OnOk, refl, sym, ap₂, subst, append_assoc, arith}
use Rattle.std.proofs.lemmas.Grind.{common_steps}
use Rattle.std.proofs.lemmas.List.{append-nil}
use Rattle.scen_defs.specs.Program.{Program, content, view_of}
use Rattle.scen_defs.specs.declared.program.Program.{Program as ProgramOf}
use Rattle.scen_defs.specs.declared.report.Report.{Report}
use Rattle.edit_defs.specs.declared.edit.Act.{Act}
use Rattle.edit_defs.specs.declared.edit.Act.TheVariants.{Change, Solve}
use Rattle.edit_defs.specs.declared.edit.Edit.{Edit}
use Rattle.edit_defs.specs.declared.edit.Item.{Item}
use Rattle.edit_defs.specs.After.{after}
use Rattle.edit_script.specs.Allowed.{AreAllowed, IsAllowed}
use Rattle.report_defs.specs.Truth.{IsTrue, HasCounts}
use Rattle.report_text.specs.Text.{report_text}
use Rattle.pass_core.specs.declared.budget.Budget.{Budget}
use Rattle.smps_session.specs.Lists.{ListsAreOf}
use Rattle.smps_session.specs.Reasons.{told_reasons}
use Rattle.smps_session.specs.declared.told.Told.{Told}
use Rattle.smps_session.specs.declared.whole.StatedLimits.{StatedLimits}
use Rattle.smps_session.specs.declared.whole.Answered.{Answered}
use Rattle.smps_session.specs.Shorter.{IsPrinted}
use Rattle.proved_report.specs.Reports.{EqualIsOptimal}
use Rattle.smps_session.specs.Told.{IsTold, AreTold}
use Rattle.nested_method.specs.declared.method.Method.{Method}
use Rattle.nested_method.specs.Stands.{HasFewNodes, Begins, WorksBySolves, WorksBySteps, WorksAsAsked, GoesOn, StandsCleared}
use Rattle.nested_method.proofs.Numbers.{edits_cleared}
use Rattle.smps_session.specs.Comes.{ComesOf, IsOnTree, TakesEdit, IsUnderWay}
use Rattle.smps_session.specs.Courses.{Course, course_at, TellsOne, IsBehind}
use Rattle.smps_session.proofs.OneRun.{works_in_one_run}

pub on_ok : {X E : Type 0} (r : Result X E) (A : Type 0) → A → OnOk r A
on_ok (Ok x) A a = a
on_ok (Err e) A a = tt

-- what is told of a report
is_told : (budget : Budget) (stated : StatedLimits) (start : Program) (came number : ℕ) (program : ProgramOf) (method next : Method) (own report : Report)
    (told : Told) → report.number ≡ number → told.text.items ≡ report_text program report → told.finding ≡ report.finding
    → HasCounts (view_of (content program)) report → IsTrue (view_of (content program)) (told_reasons program budget) report
    → ListsAreOf (content program) report → EqualIsOptimal report → (HasFewNodes (content program) → ComesOf budget start came program method own next)
    → IsPrinted told.by_whole stated program own report
    → IsTold budget stated start came number (content program) method told next
is_told budget stated start came number program method next own report told n t f counts truth lists equal comes printed = record {
  program = program;
  content_is = refl;
  report = report;
  number_is = n;
  text = t;
  finding = f;
  counts = counts;
  truth = truth;
  lists = lists;
  equal = equal;
  own = own;
  comes = comes;
  printed = printed;
}

-- where it is printed
pub tells : {E : Type 0} (budget : Budget) (stated : StatedLimits) (start : Program) (came number : ℕ) (program : ProgramOf) (method next : Method)
    (own : Report) (answered : Answered) (result : Result Told E) → answered.report.number ≡ number
    → IfOk result (λ told. told.text.items ≡ report_text program answered.report) → IfOk result (λ told. told.finding ≡ answered.report.finding)
    → IfOk result (λ told. told.by_whole ≡ answered.by_whole)
    → HasCounts (view_of (content program)) answered.report → IsTrue (view_of (content program)) (told_reasons program budget) answered.report
    → ListsAreOf (content program) answered.report → EqualIsOptimal answered.report → (HasFewNodes (content program) → ComesOf budget start came program method own next)
    → IsPrinted answered.by_whole stated program own answered.report
    → IfOk result (λ told. IsTold budget stated start came number (content program) method told next)
tells budget stated start came number program method next own answered (Ok told) n t f b counts truth lists equal comes printed =
    is_told budget stated start came number program method next own answered.report told n t f counts truth lists equal comes
    (subst (λ (by_whole : Bool). IsPrinted by_whole stated program own answered.report) (sym b) printed)
tells budget stated start came number program method next own answered (Err e) n t f b counts truth lists equal comes printed = tt

-- a list of less than one item has none
pub none_left : {A : Type 0} (xs : List A) → length xs < 1 → xs ≡ []
none_left [] h = refl
none_left (x ∷ xs) h = absurd (omega (arith, h))

-- a list with an item, taken apart
taken_apart : {A : Type 0} (xs : List A) (x : A) → 1 ≤ length xs → x ≡ get_or xs 0 x
    → xs ≡ x ∷ take (length xs - 1) (drop 1 xs)
taken_apart [] x l h = absurd (omega (arith, l))
taken_apart (y ∷ ys) x l h = grind (arith, common_steps, h)

-- the edit of an item is allowed
pub edit_allowed : (p : Program) (item : Item) (e : Edit) → item.act ≡ Change e → AreAllowed p (item ∷ []) → IsAllowed p e
edit_allowed p item e a h = let k = rw a at h in k.0

-- and so is a first item
first_allowed : (p : Program) (act : Act) (items : List Item) (work : ℕ) → AreAllowed p (record { work = work; act = act } ∷ items)
    → AreAllowed p (record { work = work; act = act } ∷ [])
first_allowed p (Change e) items work h = (h.0, tt)
first_allowed p Solve items work h = tt

pub item_allowed : (p : Program) (item : Item) (items : List Item) → 1 ≤ length items → item ≡ get_or items 0 item
    → AreAllowed p items
    → AreAllowed p (item ∷ [])
item_allowed p item items some first h =
    first_allowed p item.act (take (length items - 1) (drop 1 items)) item.work
    (subst (λ (xs : List Item). AreAllowed p xs) (taken_apart items item some first) h)

-- what a method does at an edit
pub takes_edit : {A E : Type 0} (result : Result A E) (p : Program) (work : ℕ) (e : Edit) (old worked new : Method)
    → (HasFewNodes p → WorksBySolves p old worked) → (HasFewNodes p → WorksAsAsked p work old worked) → WorksBySteps p old worked
    → OnOk result (GoesOn p e worked new) → HasFewNodes (after p e) → (IsOnTree p → IsOnTree (after p e)) → OnOk result (TakesEdit p work e old new)
takes_edit (Ok x) p work e old worked new w a s g few tree =
    record { worked = worked; works = w; amount = a; run = works_in_one_run p old worked s; goes = g; few = few; tree = tree }
takes_edit (Err x) p work e old worked new w a s g few tree = tt

-- and that its reasons are cleared behind it
pub changed_cleared : {A E : Type 0} (result : Result A E) (p q : Program) (e : Edit) (worked new : Method) → OnOk result (q ≡ after p e)
    → OnOk result (GoesOn p e worked new) → HasFewNodes q → OnOk result (StandsCleared new)
changed_cleared (Ok x) p q e worked new a g few = edits_cleared p e worked new g (subst HasFewNodes a few)
changed_cleared (Err x) p q e worked new a g few = tt

-- an item that is an edit
changed : {A E : Type 0} (result : Result A E) (budget : Budget) (stated : StatedLimits) (start : Program) (work : ℕ) (e : Edit) (p q : Program) (method method' : Method)
    (came number number' : ℕ) (tolds : List Told) → OnOk result (q ≡ after p e) → number' ≡ number → OnOk result (TakesEdit p work e method method')
    → OnOk result (IsBehind budget stated start work (Change e) (course_at p method came number tolds) (course_at q method' (came + 1) number' tolds))
changed (Ok x) budget stated start work e p q method method' came number number' tolds h n t =
    record { takes = t; course = ap₂ (λ (r : Program) (k : ℕ). course_at r method' (came + 1) k tolds) h n }
changed (Err x) budget stated start work e p q method method' came number number' tolds h n t = tt

pub is_behind_edit : {A E : Type 0} (result : Result A E) (budget : Budget) (stated : StatedLimits) (start : Program) (work : ℕ) (act : Act) (e : Edit) (p q : Program)
    (method method' : Method) (came number number' : ℕ) (tolds : List Told) → act ≡ Change e → OnOk result (q ≡ after p e) → number' ≡ number
    → OnOk result (TakesEdit p work e method method')
    → OnOk result (IsBehind budget stated start work act (course_at p method came number tolds) (course_at q method' (came + 1) number' tolds))
is_behind_edit result budget stated start work act e p q method method' came number number' tolds a h n t =
    subst (λ (x : Act). OnOk result (IsBehind budget stated start work x (course_at p method came number tolds) (course_at q method' (came + 1) number' tolds))) (sym a)
    (changed result budget stated start work e p q method method' came number number' tolds h n t)

-- and one that is a SOLVE
pub is_behind_solve : {A E : Type 0} (result : Result A E) (budget : Budget) (stated : StatedLimits) (start : Program) (work : ℕ) (act : Act) (s t : Course)
    → act ≡ Solve → OnOk result (TellsOne budget stated start s t) → OnOk result (IsBehind budget stated start work act s t)
is_behind_solve result budget stated start work act s t a h = subst (λ (x : Act). OnOk result (IsBehind budget stated start work x s t)) (sym a) h

pub tells_one : (budget : Budget) (stated : StatedLimits) (start : Program) (came number next : ℕ) (p : Program) (method method' : Method) (told : Told) (tolds pushed : List Told)
    → IsTold budget stated start came number p method told method' → next ≡ number + 1 → pushed ≡ tolds ++ told ∷ []
    → TellsOne budget stated start (course_at p method came number tolds) (course_at p method' (came + 1) next pushed)
tells_one budget stated start came number next p method method' told tolds pushed h n e = record {
  told = told;
  is_told = h;
  course = ap₂ (course_at p method' (came + 1)) n e;
}

-- the items that are left are allowed, and what is told of them is told behind what was told
abbrev pub IsOnCourse : Budget → StatedLimits → Program → Method → List Item → List Item → Course → Type 0
IsOnCourse budget stated start first all items s = AreAllowed s.program items
    × ((later : List Told) → AreTold budget stated start s.came s.number s.program s.method items later
    → AreTold budget stated start 0 1 start first all (s.tolds ++ later))

-- a script has come so far: its method began with its first program, and is on its way behind the items that came
pub record HasCome (budget : Budget) (stated : StatedLimits) (start : Program) (all items : List Item) (p : Program) (method : Method) (number : ℕ) (tolds : List Told)
    : Type 0 where
  pub first : Method
  pub begins : HasFewNodes start → Begins start budget first
  pub came : ℕ
  pub way : IsUnderWay budget start came p method
  pub course : IsOnCourse budget stated start first all items (course_at p method came number tolds)

-- nothing is told before the first item
pub begins_course : (budget : Budget) (stated : StatedLimits) (p : Program) (method : Method) (items rest : List Item) (tolds : List Told)
    → rest ≡ items → tolds ≡ [] → AreAllowed p items
    → IsOnCourse budget stated p method items rest (course_at p method 0 1 tolds)
begins_course budget stated p method items rest tolds e t h =
    subst (λ (xs : List Item). IsOnCourse budget stated p method items xs (course_at p method 0 1 tolds)) (sym e)
    (subst (λ (ts : List Told). IsOnCourse budget stated p method items items (course_at p method 0 1 ts)) (sym t) (h, λ later told. told))

-- one item, and then the others
behind_one : (budget : Budget) (stated : StatedLimits) (start : Program) (first : Method) (all items : List Item) (act : Act) (work : ℕ) (s t : Course)
    → IsOnCourse budget stated start first all (record { work = work; act = act } ∷ items) s → IsBehind budget stated start work act s t
    → IsOnCourse budget stated start first all items t
behind_one budget stated start first all items (Change e) work s t g h =
    subst (λ (u : Course). IsOnCourse budget stated start first all items u) (sym h.course)
    (g.0.1, λ later told. g.1 later (t.method, (h.takes, told)))
behind_one budget stated start first all items Solve work s t g h =
    subst (λ (u : Course). IsOnCourse budget stated start first all items u) (sym h.course) (
      g.0,
      λ later rest. subst (λ (ts : List Told). AreTold budget stated start 0 1 start first all ts) (sym (append_assoc s.tolds (h.told ∷ []) later))
          (g.1 (h.told ∷ later) (t.method, (h.is_told, rest))),
    )

pub stays_on_course : (budget : Budget) (stated : StatedLimits) (start : Program) (first : Method) (all items : List Item) (item : Item) (s t : Course)
    → 1 ≤ length items → item ≡ get_or items 0 item → IsOnCourse budget stated start first all items s → IsBehind budget stated start item.work item.act s t
    → IsOnCourse budget stated start first all (take (length items - 1) (drop 1 items)) t
stays_on_course budget stated start first all items item s t some is g h =
    behind_one budget stated start first all (take (length items - 1) (drop 1 items)) item.act item.work s t
    (subst (λ (xs : List Item). IsOnCourse budget stated start first all xs s) (taken_apart items item some is) g) h

-- all items are told
pub all_told : (budget : Budget) (stated : StatedLimits) (start : Program) (first : Method) (all items : List Item) (s : Course) → length items < 1
    → IsOnCourse budget stated start first all items s
    → AreTold budget stated start 0 1 start first all s.tolds
all_told budget stated start first all items s none g =
    let e : items ≡ [] = none_left items none in
    subst (λ (tolds : List Told). AreTold budget stated start 0 1 start first all tolds) (append-nil s.tolds)
    (g.1 [] (subst (λ (xs : List Item). AreTold budget stated start s.came s.number s.program s.method xs []) (sym e) refl))

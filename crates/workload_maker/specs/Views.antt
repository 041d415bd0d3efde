-- What the types of the code say.
use Rattle.workload_maker.specs.Page.{Page}
use Rattle.workload_maker.specs.Lines.{Shape}
use Rattle.workload_maker.specs.declared.page.Page.{Page as PageOf}
use Rattle.workload_maker.specs.declared.lines.Shape.{Shape as ShapeOf}

abbrev pub page_view : PageOf → Page
page_view page = record { text = page.text.items; state = page.state }

abbrev pub shape_view : ShapeOf → Shape
shape_view shape = record { stages = shape.stages; branches = shape.branches; size = shape.size }

-- The lines of a whole file.
use Rattle.std.specs.Prelude.{◌≡◌, ◌<◌, ◌≤◌, length}
use Rattle.core_defs.specs.Core.{column_names, IsCore}
use Rattle.core_defs.specs.Filed.{Filed, closed}
use Rattle.core_defs.specs.Finished.{row_defs, column_defs}
use Rattle.core_defs.specs.Step.{most_rows, most_columns}

-- the lines up to ENDATA are filed
pub record IsWhole (f : Filed) : Type 0 where
  -- there is an objective
  pub some_free : 0 < length f.free
  pub few_rows : length f.rows ≤ most_rows
  pub few_columns : length f.names ≤ most_columns
  -- what is stated of a column stands for each
  pub all_parts : length (closed f).parts ≡ length f.names
  pub keeps : IsCore (row_defs f 0 f.rows) (column_defs f 0 (closed f).parts)
  pub named : column_names (column_defs f 0 (closed f).parts) ≡ f.names

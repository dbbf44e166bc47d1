-- The statuses of errors of tables.
use Rattle.std.specs.Prelude.{ℕ}
use Rattle.key_table.specs.declared.error.TableError.{TableError}
use Rattle.key_table.specs.declared.error.TableError.TheVariants as errors

-- the status of an error
abbrev pub table_status_of : TableError → ℕ
table_status_of errors.NoKey = 7
table_status_of errors.OutOfMemory = 2

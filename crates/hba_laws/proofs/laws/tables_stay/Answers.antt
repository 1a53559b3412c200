use Rattle.hba_laws.proofs.prd_tables.TableLemmas.{bytes_stay, issued_stay_readable, tables_stay}
use Rattle.hba_laws.proofs.laws.tables_stay.Goals as goal

pub returns-clause-bytes : goal.returns-clause-bytes
returns-clause-bytes c = bytes_stay

pub returns-clause-tables : goal.returns-clause-tables
returns-clause-tables c = tables_stay

pub returns-clause-issued : goal.returns-clause-issued
returns-clause-issued c = issued_stay_readable

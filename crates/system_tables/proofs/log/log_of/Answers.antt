use Rattle.system_tables.proofs.log.log_of.Goals as goal

pub returns : goal.returns
returns c = λ t. λ i. record { name = c.in_ok-from_slice.ensures i; columns = c.in_ok-log_columns.ensures t i; rows = c.args.rows }

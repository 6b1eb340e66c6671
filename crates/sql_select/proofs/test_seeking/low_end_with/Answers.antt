use Rattle.sql_select.proofs.test_seeking.low_end_with.Goals as goal

pub returns-in-Some : goal.returns-in-Some
returns-in-Some c = c.in_ok-value.ensures c.in-Some.value c.in-Some.is

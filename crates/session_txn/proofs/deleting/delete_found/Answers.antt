use Rattle.session_txn.proofs.deleting.delete_found.Goals as goal

pub keys_chosen-requires-after_bounds : goal.keys_chosen-requires-after_bounds
keys_chosen-requires-after_bounds g c κs within = let found = c.requires.2 in (c.requires.1, found.stands)

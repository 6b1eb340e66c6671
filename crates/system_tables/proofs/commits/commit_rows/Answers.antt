use Rattle.std.proofs.Common.{refl, [], List, ◌<◌, length, arith}
use Rattle.chunk_store.specs.Drafts.{chunks_of}
use Rattle.tuple_codec.specs.declared.addresses.Address.{Address}
use Rattle.system_tables.specs.Rows.{bytes_of, commit_rows}
use Rattle.system_tables.proofs.RowLemmas.{one_more, one_of}
use Rattle.system_tables.proofs.commits.commit_rows.Goals as goal

abbrev nothing : Address
nothing = record { 0 = [] }

pub push_commit-requires-after_bounds : goal.push_commit-requires-after_bounds
push_commit-requires-after_bounds g c κs within =
    let here : c.loop-address.address-index < length c.args.addresses.now = omega arith in
    (c.requires.0, one_of (λ (k : Address). k.0) g.D.Digester.address (chunks_of c.args.draft.now.chunks) c.requires.0 c.args.addresses.now c.loop-address.address-index nothing here c.requires.1)

pub loop-address-preserved : goal.loop-address-preserved
loop-address-preserved g c = λ commits are.
    let here : c.loop-address.address-index < length c.args.addresses.now = omega arith in
    one_more (λ (xs : List Address). commit_rows commits (bytes_of xs)) (λ x xs. refl) c.args.addresses.now c.loop-address.address-index nothing here c.loop-address.rows c.push_commit.new.rows
    (commit_rows commits (bytes_of c.args.addresses.now)) (c.loop-address.invariant commits are)
    (c.in_ok-push_commit.ensures commits
    (one_of (λ (k : Address). k.0) g.D.Digester.address (chunks_of c.args.draft.now.chunks) commits c.args.addresses.now c.loop-address.address-index nothing here are))

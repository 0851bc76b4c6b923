-- `add_list` puts the count and then each record behind what is there. Assumes nothing.
use Rattle.std.proofs.Common.{rules, arith, ◌≡◌, ◌+◌, ◌++◌, ◌<◌, ◌∙◌, [], List, ℕ, ap, sym, length, take, flat_map, slice_index_or, append_assoc, replicate}
use Rattle.std.proofs.lemmas.List.{take_more, flat_map_more}
use lib.Seq.{take_all, length-sets}
use Rattle.policy.specs.Fields.{count_size, record_size}
use Rattle.wire.specs.Numbers.{number_bytes}
use Rattle.test_draws.specs.Steps.{Added, count_put}
use Rattle.test_draws.proofs.order.Sheet.add_list.Goals as goal

one_more : (start before after : List ℕ) (items : List (List ℕ)) (i : ℕ) → i < length items → before ≡ start ++ flat_map (λ r. r) (take i items)
    → after ≡ before ++ slice_index_or items i [] → after ≡ start ++ flat_map (λ r. r) (take (i + 1) items)
one_more start before after items i h e f =
    f
    ∙ ap (λ l. l ++ slice_index_or items i []) e
    ∙ flat_map_more (λ r. r) start (take i items) (slice_index_or items i [])
    ∙ ap (λ l. start ++ flat_map (λ r. r) l) (sym (take_more items i [] h))

count_length : (n : ℕ) → length (count_put n) ≡ count_size
count_length n = length-sets (replicate count_size 0) 0 (number_bytes count_size n)

pub loop-record-preserved : goal.loop-record-preserved
unfolding Added
loop-record-preserved c =
    let items = c.records-record-items.result.now in
    let i = c.loop-record.record-index in
    let same = c.loop-record.invariant.0 ∙ c.add_count.ensures.2 in
    let one : length (slice_index_or items i []) ≡ record_size = search rules in
    let two = count_length c.args.list.now.count in
    let all : length items ≡ c.args.list.now.count = search rules in
    let first = c.add_count.ensures.0 (omega (arith, two, c.requires)) in
    let put = c.add.ensures.0 (omega (arith, one, two, same, all, first.0, c.loop-record.invariant.1, c.loop-record-test.true, c.requires)) in
    (c.add.ensures.2 ∙ c.loop-record.invariant.0, omega (arith, put.0, one, c.loop-record.invariant.1), one_more _ _ _ items i c.loop-record-test.true c.loop-record.invariant.2 put.1)

pub returns-clause-used : goal.returns-clause-used
unfolding Added
returns-clause-used c =
    let two = count_length c.args.list.now.count in
    let all : length c.records-record-items.result.now ≡ c.args.list.now.count = search rules in
    let first = c.add_count.ensures.0 (omega (arith, two, c.requires)) in
    omega (arith, first.0, two, all, c.loop-record.invariant.1, c.loop-record-test.false, c.loop-record.auto.record-index-end)

pub returns-clause-bytes : goal.returns-clause-bytes
unfolding Added
returns-clause-bytes c =
    let items = c.records-record-items.result.now in
    let two = count_length c.args.list.now.count in
    let first = c.add_count.ensures.0 (omega (arith, two, c.requires)) in
    let whole : take c.loop-record.record-index items ≡ take c.args.list.now.count c.args.list.now.records = take_all _ _ (c.loop-record-test.false) ∙ c.records-record-items.ensures in
    c.loop-record.invariant.2
    ∙ ap (λ l. l ++ flat_map (λ r. r) (take c.loop-record.record-index items)) first.1
    ∙ append_assoc (take c.args.self.now.used c.args.self.now.bytes) (count_put c.args.list.now.count) (flat_map (λ r. r) (take c.loop-record.record-index items))
    ∙ ap (λ l. take c.args.self.now.used c.args.self.now.bytes ++ (count_put c.args.list.now.count ++ flat_map (λ r. r) l)) whole

pub returns-clause-length : goal.returns-clause-length
unfolding Added
returns-clause-length c = c.loop-record.invariant.0 ∙ c.add_count.ensures.2

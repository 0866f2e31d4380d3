use Rattle.std.proofs.Common.{◌≡◌, length, rules, ap, ◌∙◌}
use Rattle.toml.specs.View.{table_view}
use Rattle.toml.proofs.Views.{view-Array}
use Rattle.stack_reader.specs.Keys.{word_of}
use Rattle.stack_reader.specs.Writing.{put_member}
use Rattle.stack_reader.proofs.PutTables.{on_ok, put_full}
use Rattle.stack_reader.proofs.writing.put_list.Goals as goal

pub returns : goal.returns
returns c =
    let len : c.args.list.len ≡ length c.args.list.items = search rules in
    on_ok c.put.result _ _ (λ h. h ∙ ap (λ d. put_member (word_of c.args.key) d (table_view c.args.table.now))
    (view-Array c.args.list)
    ∙ put_full (word_of c.args.key) c.args.list.items (table_view c.args.table.now) c.args.list.len len
    (search rules)) c.put.ensures

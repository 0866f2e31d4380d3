use Rattle.std.proofs.Common.{refl}
use Rattle.stack_model.specs.declared.places.Key.TheVariants as keys
use Rattle.stack_model.specs.Relisted.{relisted}
use Rattle.stack_reader.specs.Keys.{word_of}
use Rattle.stack_reader.specs.Writing.{material_data, joint_data, block_data, load_data, with_tables, head_data}
use Rattle.stack_reader.proofs.PutTables.{Front, front_head, front_over, next}
use Rattle.stack_reader.proofs.writing.second_table.Goals as goal

pub returns : goal.returns
returns c =
    let p = relisted c.args.model.now in
    let hs = head_data p in
    let ms = with_tables keys.Material material_data p.materials hs in
    let ls = with_tables keys.Load load_data p.loads ms in
    let js = with_tables keys.Joint joint_data p.joints ls in
    let material : Front (word_of keys.Material) hs =
    front_head (word_of keys.Material) p.version p.sway (λ a b c. refl) (λ a b c. refl) in
    let load : Front (word_of keys.Load) ms =
    front_over keys.Material material_data (word_of keys.Load) p.materials hs (λ a b c. refl)
    (front_head (word_of keys.Load) p.version p.sway (λ a b c. refl) (λ a b c. refl)) in
    let joint : Front (word_of keys.Joint) ls =
    front_over keys.Load load_data (word_of keys.Joint) p.loads ms (λ a b c. refl)
    (front_over keys.Material material_data (word_of keys.Joint) p.materials hs (λ a b c. refl)
    (front_head (word_of keys.Joint) p.version p.sway (λ a b c. refl) (λ a b c. refl))) in
    let block : Front (word_of keys.Block) js =
    front_over keys.Joint joint_data (word_of keys.Block) p.joints ls (λ a b c. refl)
    (front_over keys.Load load_data (word_of keys.Block) p.loads ms (λ a b c. refl)
    (front_over keys.Material material_data (word_of keys.Block) p.materials hs (λ a b c. refl)
    (front_head (word_of keys.Block) p.version p.sway (λ a b c. refl) (λ a b c. refl)))) in
    next keys.Block block_data p.blocks _ _ js _ c.in_ok-put_list-4.ensures c.in_ok-blocks.ensures.value
    (next keys.Joint joint_data p.joints _ _ ls _ c.in_ok-put_list-3.ensures c.in_ok-joints.ensures
    (next keys.Load load_data p.loads _ _ ms _ c.in_ok-put_list-2.ensures c.in_ok-loads.ensures
    (next keys.Material material_data p.materials _ _ hs _ c.in_ok-put_list.ensures c.in_ok-materials.ensures
    c.in_ok-table.ensures material) load) joint) block

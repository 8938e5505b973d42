use Rattle.std.proofs.Common.{[], ◌∷◌, ◌++◌, ap, ◌∙◌, arith}
use Rattle.lane_model.specs.declared.Field.TheVariants.{Chunk}
use Rattle.lane_model.specs.declared.Write.TheVariants.{Data}
use Rattle.lane_core.proofs.Writes.{chunk_cells-push}
use Rattle.lane_core.proofs.write.fill_todo.Goals as goal

pub loop-part-preserved : goal.loop-part-preserved
loop-part-preserved c =
    record {
      items = c.push_back_reserved.ensures.items
          ∙ ap (λ marks. marks ++ Data c.args.number (Chunk c.loop-part.part) ∷ []) c.loop-part.invariant.items
          ∙ chunk_cells-push c.args.todo.now.items c.args.number c.loop-part.part;
      count = omega arith;
      capacity = c.push_back_reserved.ensures.capacity ∙ c.loop-part.invariant.capacity;
    }

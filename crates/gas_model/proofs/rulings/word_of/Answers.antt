use Rattle.std.proofs.Common.{rules}
use Rattle.std.proofs.lemmas.List.Sorted.{answers_always}
use Rattle.gas_model.proofs.PickedWord.{found_says, missed_says}
use Rattle.gas_model.proofs.rulings.word_of.Goals as goal

pub returns-in-Ok : goal.returns-in-Ok
returns-in-Ok c pick state e =
    found_says pick state c.args.rulings.now c.args.decision c.in-Ok.place _ c.requires e c.in-Ok.ensures.bound (c.in-Ok.ensures.position (λ r. r.decision) (answers_always _ _ _ (λ f a r g called. search rules)))

pub returns-in-Err : goal.returns-in-Err
returns-in-Err c pick state e =
    missed_says pick state c.args.rulings.now c.args.decision c.in-Err.field-0 c.requires e (c.in-Err.ensures.position (λ r. r.decision) (answers_always _ _ _ (λ f a r g called. search rules)))

use Rattle.command_core.proofs.fault_text.put_model.Goals as goal

pub returns-in-NoSuchNode : goal.returns-in-NoSuchNode
returns-in-NoSuchNode c = rw c.in-NoSuchNode.is c.put_named-in-NoSuchNode.ensures

pub returns-in-NotActive : goal.returns-in-NotActive
returns-in-NotActive c = rw c.in-NotActive.is c.put_named-in-NotActive.ensures

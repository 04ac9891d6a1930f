-- The cells that a core begins with fit together, and its calls are served.
use Rattle.std.proofs.Common.{◌≡◌, ◌∙◌, ◌<◌, ◌≤◌, ap, sym, subst, refl, arith, replicate, length, get_or, ℕ, map, List, All}
use Rattle.std.proofs.lemmas.List.{length-map, length-replicate}
use Rattle.std.proofs.lemmas.List.Elements.{All-replicate}
use Rattle.rt_base.specs.Script.{Script, TaskLine, task_line, all_calls, IsScript}
use Rattle.rt_base.specs.declared.call.Call.{Call}
use Rattle.rt_base.specs.declared.call.Call.TheVariants as calls
use Rattle.rt_base.specs.declared.id.TaskId.{TaskId}
use Rattle.rt_base.specs.declared.limits.TheConstants.{MAX_TASKS}
use Rattle.rt_model.specs.CallKinds.{IsServed, MovesWithin, OnEachCpu}
use Rattle.rt_model.specs.laws.Shape.{IsThread}
use Rattle.rt_model.specs.declared.reader_cell.ReaderCell.{ReaderCell}
use Rattle.rt_model.specs.Parts.{TaskPart, made_on}
use Rattle.rt_model.specs.State.{fresh_task}
use Rattle.rt_model.proofs.Lists.{All-made, All-default}
use Rattle.rt_model.proofs.Starts.{calls_within, served_calls, moving_calls}
use Rattle.rt_locks.specs.OwnerCell.{OwnerCell}
use Rattle.rt_parts.specs.Shared.{free_cell, IsAmong, IsShared}

pub start-fits : (n : ℕ) (lines : List TaskLine) (cells : List OwnerCell) (readers : List ReaderCell) (tasks : List TaskPart) (r : ReaderCell) → n ≤ 256 → length lines ≤ 64
    → cells ≡ replicate n (free_cell (length lines)) → readers ≡ replicate n r → tasks ≡ map (λ (line : TaskLine). fresh_task n line.own) lines → IsShared cells readers tasks
start-fits n lines cells readers tasks r few_locks few_tasks is_cells is_readers is_tasks =
    let locks : length cells ≡ n = ap length is_cells ∙ length-replicate n (free_cell (length lines)) in
    let long : length tasks ≡ length lines = ap length is_tasks ∙ length-map lines (λ (line : TaskLine). fresh_task n line.own) in
    let parts : length readers ≡ n = ap length is_readers ∙ length-replicate n r in
    record {
      few_locks = rw locks few_locks;
      few_tasks = rw long few_tasks;
      locks = rw long (subst (λ (xs : List OwnerCell). All (IsAmong (length lines)) xs) (sym is_cells) (All-replicate (IsAmong (length lines)) n (free_cell (length lines)) (record { room = refl; owner = tt })));
      readers = parts ∙ sym locks;
      kept = rw locks (subst (λ (xs : List TaskPart). All (λ (task : TaskPart). length task.kept ≡ n) xs) (sym is_tasks) (All-made (λ (task : TaskPart). length task.kept ≡ n) (λ (line : TaskLine). fresh_task n line.own) (λ line. length-replicate n _) lines));
    }

-- a call that is served among so many tasks is so among as many as there may be
pub served-more : (tasks locks : ℕ) (call : Call) → tasks ≤ MAX_TASKS → IsServed tasks locks call → IsServed MAX_TASKS locks call
served-more tasks locks (calls.Lock l) few served = served
served-more tasks locks (calls.LockInt l) few served = served
served-more tasks locks (calls.TryLock l) few served = served
served-more tasks locks (calls.Unlock l) few served = served
served-more tasks locks (calls.Spin l) few served = served
served-more tasks locks (calls.TrySpin l) few served = served
served-more tasks locks (calls.Unspin l) few served = served
served-more tasks locks (calls.Read l) few served = served
served-more tasks locks (calls.TryRead l) few served = served
served-more tasks locks (calls.Unread l) few served = served
served-more tasks locks (calls.Write l) few served = served
served-more tasks locks (calls.TryWrite l) few served = served
served-more tasks locks (calls.Unwrite l) few served = served
served-more tasks locks (calls.Downgrade l) few served = served
served-more tasks locks (calls.State state) few served = served
served-more tasks locks calls.Schedule few served = served
served-more tasks locks (calls.Wake t) few served = omega (arith, served, few)
served-more tasks locks (calls.Signal t) few served = omega (arith, served, few)
served-more tasks locks (calls.SetPrio t prio) few served = (omega (arith, served.0, few), served.1)
served-more tasks locks (calls.Local l) few served = served
served-more tasks locks (calls.Unlocal l) few served = served
served-more tasks locks (calls.Move cpu) few served = tt

-- a thread of a script that has made none of its calls
pub fresh-thread : (script : Script) → IsScript script → (t : TaskId) → t.0 < length script.tasks → IsThread (task_line script t).calls 0 (task_line script t).cpu MAX_TASKS (length script.locks)
fresh-thread script valid t lt =
    let n = length script.locks in
    let few : length (task_line script t).calls ≤ all_calls script = All-default (λ (line : TaskLine). length line.calls ≤ all_calls script) script.tasks t.0 _ (calls_within script) lt in
    let served = All-default (λ (line : TaskLine). All (OnEachCpu script.cpus (IsServed (length script.tasks) n)) line.calls) script.tasks t.0 _ (served_calls script valid) lt in
    record {
      within = omega arith;
      few = omega (arith, few, valid.calls);
      cpus = script.cpus;
      on = All-default (λ (line : TaskLine). line.cpu.0 < script.cpus) script.tasks t.0 _ (λ i d less. (valid.each_task i d less).cpu) lt;
      moves = All-default (λ (line : TaskLine). All (MovesWithin script.cpus) line.calls) script.tasks t.0 _ (moving_calls script valid) lt;
      served = λ i d less cpu on. served-more (length script.tasks) n (made_on cpu (get_or (task_line script t).calls i d)) valid.tasks (served i d less cpu on);
    }

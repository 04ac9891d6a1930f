-- lists, numbers, what a thread's holds count, and the rows of a lock
pub mod Lists
pub mod Numbers
pub mod Counts
pub mod ReaderCounts
pub mod Holds
pub mod CellStepLemmas
pub mod Queues
-- how an event comes about, and the parts that it leaves
pub mod Touching
pub mod Alike
pub mod Cells
pub mod Calling
pub mod ToCome
pub mod events
pub mod NextEvents
pub mod PartsAfter
pub mod Blocked
pub mod Calm
pub mod Reading
pub mod Looks
pub mod TaskStates
-- what an event reads and writes
pub mod Frame
pub mod EffectLocal
pub mod Local
pub mod Uninvolved
-- what a lawful state says of a task
pub mod Within
pub mod Inside
pub mod Waiters
pub mod Idle
pub mod PathLinks
pub mod Named
-- what a link of a walk leaves, a walk's end, a restart, a signal and a setprio, and a wait that ends without the lock; how a walk
-- goes on, its path, and which events change an owner
pub mod Links
pub mod Leaves
pub mod Routes
pub mod Sorts
pub mod Paths
pub mod Owned
-- the blocking graph, and who is responsible for its cycles
pub mod graph
-- the laws, one a file, and that a next event keeps all of them
pub mod laws
pub mod Lawful
-- where a run starts, every state along it, and what is played
pub mod Starts
pub mod Prefixes
pub mod Runs
pub mod Lowest
-- what each step on a reader part finds
pub mod ReaderSteps

-- What the words of a run ask for: a command, with its names as texts.
use Rattle.std.specs.Prelude.{◌<◌, ◌≤◌, ℕ, Bool, List, Option, Some, None, codes, max, option_map}
use Rattle.command_line.specs.declared.command.Check.{Check}
use Rattle.command_line.specs.declared.command.CheckOptions.{CheckOptions}
use Rattle.command_line.specs.declared.command.Replay.{Replay}
use Rattle.command_line.specs.declared.command.Verify.{Verify}
use Rattle.command_line.specs.declared.command.Demo.{Demo}
use Rattle.command_line.specs.declared.command.Climb.{Climb}
use Rattle.command_line.specs.declared.command.Reduce.{Reduce}
use Rattle.command_line.specs.declared.command.Batch.{Batch}
use Rattle.command_line.specs.declared.command.Command.{Command}
use Rattle.command_line.specs.declared.command.Command.TheVariants as commands

-- the options of `check`
pub record OptionsAsked : Type 0 where
  pub k : ℕ
  pub depth : ℕ
  pub workers : ℕ
  pub classes : Bool
  pub stats : Bool
  pub trace : Option (List ℕ)
  pub cert : Option (List ℕ)
  pub tied : Bool
  pub least : Bool

pub record CheckAsked : Type 0 where
  pub left : List ℕ
  pub right : List ℕ
  pub options : OptionsAsked

pub record ReplayAsked : Type 0 where
  pub left : List ℕ
  pub right : List ℕ
  pub trace : List ℕ
  pub tied : Bool

pub record VerifyAsked : Type 0 where
  pub left : List ℕ
  pub right : List ℕ
  pub cert : List ℕ
  pub tied : Bool

pub record ClimbAsked : Type 0 where
  pub left : List ℕ
  pub right : List ℕ
  pub most : ℕ
  pub workers : ℕ
  pub least : Bool

pub record ReduceAsked : Type 0 where
  pub net : List ℕ
  pub out : List ℕ
  pub k : ℕ
  pub workers : ℕ
  pub binary : Bool

pub record BatchAsked : Type 0 where
  pub list : List ℕ
  pub k : ℕ
  pub workers : ℕ

pub data Asked : Type 0 where
  ForCheck : CheckAsked → Asked
  ForReplay : ReplayAsked → Asked
  ForVerify : VerifyAsked → Asked
  ForDemo : Demo → Asked
  ForClimb : ClimbAsked → Asked
  ForReduce : ReduceAsked → Asked
  ForBatch : BatchAsked → Asked

abbrev pub options_asked : CheckOptions → OptionsAsked
options_asked c = record { k = c.k; depth = c.depth; workers = c.workers; classes = c.classes; stats = c.stats; trace = option_map (λ n. n.now) c.trace; cert = option_map (λ n. n.now) c.cert; tied = c.tied; least = c.least }

abbrev pub check_asked : Check → CheckAsked
check_asked c = record { left = c.left.now; right = c.right.now; options = options_asked c.options }

abbrev pub replay_asked : Replay → ReplayAsked
replay_asked c = record { left = c.left.now; right = c.right.now; trace = c.trace.now; tied = c.tied }

abbrev pub verify_asked : Verify → VerifyAsked
verify_asked c = record { left = c.left.now; right = c.right.now; cert = c.cert.now; tied = c.tied }

abbrev pub climb_asked : Climb → ClimbAsked
climb_asked c = record { left = c.left.now; right = c.right.now; most = c.most; workers = c.workers; least = c.least }

abbrev pub reduce_asked : Reduce → ReduceAsked
reduce_asked r = record { net = r.net.now; out = r.out.now; k = r.k; workers = r.workers; binary = r.binary }

abbrev pub batch_asked : Batch → BatchAsked
batch_asked b = record { list = b.list.now; k = b.k; workers = b.workers }

-- what a command asks for
abbrev pub asked_of : Command → Asked
asked_of (commands.Check c) = ForCheck (check_asked c)
asked_of (commands.Replay c) = ForReplay (replay_asked c)
asked_of (commands.Verify c) = ForVerify (verify_asked c)
asked_of (commands.Demo d) = ForDemo d
asked_of (commands.Climb c) = ForClimb (climb_asked c)
asked_of (commands.Reduce r) = ForReduce (reduce_asked r)
asked_of (commands.Batch b) = ForBatch (batch_asked b)

-- the greatest depth of the induction and of the search for a difference, the most workers, and the greatest size of a demo
abbrev pub most_depth : ℕ
most_depth = 16

abbrev pub most_search_depth : ℕ
most_search_depth = 64

abbrev pub most_workers : ℕ
most_workers = 64

abbrev pub most_size : ℕ
most_size = 100000

-- the depths and the workers of `check` are within their limits
pub record IsCheckWithin (c : OptionsAsked) : Type 0 where
  pub some : 0 < c.k
  pub few : c.k ≤ most_depth
  pub no_less : c.k ≤ c.depth
  pub shallow : c.depth ≤ most_search_depth
  pub workers : (0 < c.workers) × (c.workers ≤ most_workers)

-- and those of `demo`, with its size
pub record IsDemoWithin (d : Demo) : Type 0 where
  pub size : d.n ≤ most_size
  pub some : 0 < d.k
  pub few : d.k ≤ most_depth
  pub workers : (0 < d.workers) × (d.workers ≤ most_workers)

-- those of `climb`
pub record IsClimbWithin (c : ClimbAsked) : Type 0 where
  pub some : 0 < c.most
  pub few : c.most ≤ most_depth
  pub workers : (0 < c.workers) × (c.workers ≤ most_workers)

-- those of `reduce`
pub record IsReduceWithin (r : ReduceAsked) : Type 0 where
  pub some : 0 < r.k
  pub few : r.k ≤ most_depth
  pub workers : (0 < r.workers) × (r.workers ≤ most_workers)

-- and those of `batch`
pub record IsBatchWithin (b : BatchAsked) : Type 0 where
  pub some : 0 < b.k
  pub few : b.k ≤ most_depth
  pub workers : (0 < b.workers) × (b.workers ≤ most_workers)

-- the numbers that are asked for are within their limits
abbrev pub IsWithin : Asked → Type 0
IsWithin (ForCheck c) = IsCheckWithin c.options
IsWithin (ForReplay c) = Unit {0}
IsWithin (ForVerify c) = Unit {0}
IsWithin (ForDemo d) = IsDemoWithin d
IsWithin (ForClimb c) = IsClimbWithin c
IsWithin (ForReduce r) = IsReduceWithin r
IsWithin (ForBatch b) = IsBatchWithin b

-- the values of arguments, by their ids: a text, a number that has to be there, an option's number within limits, one that may be
-- left out, and whether a flag was there
pub record Values : Type 0 where
  pub text : List ℕ → Option (List ℕ)
  pub size : List ℕ → ℕ → Option ℕ
  pub number : List ℕ → ℕ → Option ℕ
  pub optional : List ℕ → ℕ → Option ℕ
  pub flag : List ℕ → Bool

-- a difference is looked for in the first k frames, or in more where as many are asked for
abbrev pub depth_from : ℕ → Option ℕ → ℕ
depth_from k None = k
depth_from k (Some d) = max k d

-- both names and both numbers are there
abbrev pub check_from : Option (List ℕ) → Option (List ℕ) → Option ℕ → Option ℕ → (List ℕ → List ℕ → ℕ → ℕ → CheckAsked) → Option Asked
check_from (Some left) (Some right) (Some k) (Some workers) asked = Some (ForCheck (asked left right k workers))
check_from left right k workers asked = None

-- what the values of `check` ask for
abbrev pub check_of : Values → Option Asked
check_of v = check_from (v.text (codes "LEFT")) (v.text (codes "RIGHT")) (v.number (codes "k") most_depth) (v.number (codes "j") most_workers) (λ left right k workers. record {
  left = left;
  right = right;
  options = record {
    k = k;
    depth = depth_from k (v.optional (codes "d") most_search_depth);
    workers = workers;
    classes = v.flag (codes "classes");
    stats = v.flag (codes "stats");
    trace = v.text (codes "trace");
    cert = v.text (codes "cert");
    tied = v.flag (codes "tie");
    least = v.flag (codes "least");
  };
})

abbrev pub replay_from : Option (List ℕ) → Option (List ℕ) → Option (List ℕ) → Bool → Option Asked
replay_from (Some left) (Some right) (Some trace) tied = Some (ForReplay (record { left = left; right = right; trace = trace; tied = tied }))
replay_from left right trace tied = None

abbrev pub replay_of : Values → Option Asked
replay_of v = replay_from (v.text (codes "LEFT")) (v.text (codes "RIGHT")) (v.text (codes "TRACE")) (v.flag (codes "tie"))

abbrev pub verify_from : Option (List ℕ) → Option (List ℕ) → Option (List ℕ) → Bool → Option Asked
verify_from (Some left) (Some right) (Some cert) tied = Some (ForVerify (record { left = left; right = right; cert = cert; tied = tied }))
verify_from left right cert tied = None

abbrev pub verify_of : Values → Option Asked
verify_of v = verify_from (v.text (codes "LEFT")) (v.text (codes "RIGHT")) (v.text (codes "CERT")) (v.flag (codes "tie"))

abbrev pub demo_from : Option ℕ → Option ℕ → Option ℕ → Option Asked
demo_from (Some n) (Some k) (Some workers) = Some (ForDemo (record { n = n; k = k; workers = workers }))
demo_from n k workers = None

abbrev pub demo_of : Values → Option Asked
demo_of v = demo_from (v.size (codes "N") most_size) (v.number (codes "k") most_depth) (v.number (codes "j") most_workers)

-- all depths are tried, up to the greatest one or to the one that is asked for
abbrev pub most_from : Option ℕ → ℕ
most_from None = most_depth
most_from (Some m) = m

abbrev pub climb_from : Option (List ℕ) → Option (List ℕ) → Option ℕ → ℕ → Bool → Option Asked
climb_from (Some left) (Some right) (Some workers) most least = Some (ForClimb (record { left = left; right = right; most = most; workers = workers; least = least }))
climb_from left right workers most least = None

abbrev pub climb_of : Values → Option Asked
climb_of v = climb_from (v.text (codes "LEFT")) (v.text (codes "RIGHT")) (v.number (codes "j") most_workers) (most_from (v.optional (codes "m") most_depth)) (v.flag (codes "least"))

abbrev pub reduce_from : Option (List ℕ) → Option (List ℕ) → Option ℕ → Option ℕ → Bool → Option Asked
reduce_from (Some net) (Some out) (Some k) (Some workers) binary = Some (ForReduce (record { net = net; out = out; k = k; workers = workers; binary = binary }))
reduce_from net out k workers binary = None

abbrev pub reduce_of : Values → Option Asked
reduce_of v = reduce_from (v.text (codes "NET")) (v.text (codes "OUT")) (v.number (codes "k") most_depth) (v.number (codes "j") most_workers) (v.flag (codes "binary"))

abbrev pub batch_from : Option (List ℕ) → Option ℕ → Option ℕ → Option Asked
batch_from (Some list) (Some k) (Some workers) = Some (ForBatch (record { list = list; k = k; workers = workers }))
batch_from list k workers = None

abbrev pub batch_of : Values → Option Asked
batch_of v = batch_from (v.text (codes "LIST")) (v.number (codes "k") most_depth) (v.number (codes "j") most_workers)

-- The text of each post.
use Rattle.std.specs.Prelude.{ℕ, ◌++◌, List, codes, decimal}
use Rattle.xb_flow.specs.declared.post.Post.{Post}
use Rattle.xb_flow.specs.declared.post.Post.TheVariants as post

-- its name
abbrev pub post_text : Post → List ℕ
post_text post.Feed = codes "feed"
post_text post.Pulse = codes "pulse"
post_text post.Register = codes "register"
post_text post.Translate = codes "translate"
post_text post.Deal = codes "deal"
post_text (post.Send sender) = codes "send " ++ decimal sender
post_text post.Gather = codes "gather"
post_text post.Tape = codes "tape"

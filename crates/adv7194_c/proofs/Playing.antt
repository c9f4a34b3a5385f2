-- Document 02, P5, of whatever playing answers in numbers and leaves: the answer and the board, with the map of its known registers. Assumes nothing.
use mathlib.Core.Path.{◌≡◌, ap, ◌∙◌}
use mathlib.Core.Bool.{Bool}
use mathlib.Core.List.{List}
use Prim.Native.Nat.{ℕ}
use Rattle.std.specs.Prelude.{Result, Ok, Err}
use Rattle.refusals.specs.declared.Refusal.{Refusal}
use Rattle.refusals.specs.Verdict.{Verdict}
use Rattle.adv7194_bus.specs.declared.board.Board.{Board}
use Rattle.adv7194_bus.specs.Board.{board_of}
use Rattle.adv7194_playing.specs.declared.PlanKind.{PlanKind}
use Rattle.adv7194_playing.specs.declared.Played.{Played}
use Rattle.playing.specs.Playing.{play_of}
use Rattle.adv7194_playing.specs.Playing.{takes, call_of, played_board, answer_of, known_of}
use Rattle.adv7194_answers.specs.declared.play_numbers.PlayAnswer.{PlayAnswer}
use Rattle.adv7194_answers.specs.Answers.{play_answer}

-- all that playing promises of the numbers answered, and of the image that it leaves
abbrev pub Plays : PlanKind → Board → ℕ → ℕ → List ℕ → List ℕ → PlayAnswer → Type 0
Plays kind board used own plan after r =
    record {
      answer : r ≡ play_answer (play_of (call_of (takes kind) board used own plan)) (played_board (takes kind) board used own plan).known;
      memory : board_of after r.known ≡ played_board (takes kind) board used own plan;
    }

module _ (kind : PlanKind) (board : Board) (used own : ℕ) (plan after : List ℕ) where
  -- what is to be answered, and the board that is to be left
  abbrev due : Verdict Bool
  due = play_of (call_of (takes kind) board used own plan)

  abbrev left : Board
  left = played_board (takes kind) board used own plan

  -- an answer and a board as they should be are so in numbers
  in_numbers : (v : Verdict Bool) (map : ℕ) → v ≡ due → board_of after map ≡ left → play_answer v map ≡ play_answer due left.known
  in_numbers v map e p = ap (λ (j : Verdict Bool). play_answer j map) e ∙ ap (λ (b : Board). play_answer due b.known) p

  -- what playing promises of its answer, it promises of the numbers
  pub plays : (p : Result Played Refusal) → answer_of p ≡ due → board_of after (known_of board.known p) ≡ left
      → Plays kind board used own plan after (play_answer (answer_of p) (known_of board.known p))
  plays (Ok k) e m = record { answer = in_numbers (answer_of (Ok k)) k.known e m; memory = m }
  plays (Err r) e m = record { answer = in_numbers (answer_of (Err r)) board.known e m; memory = m }

-- The limits, as docs/ has them, each proved by computation.
use Rattle.std.specs.Prelude.{◌≡◌, refl}
use Rattle.ink_model.specs.declared.limits.TheConstants.{MAX_STORY, MAX_NESTING, MAX_TEXT, MAX_STACK, MAX_MARKS, MAX_SECTIONS, MAX_FRAMES, MAX_THREADS, MAX_CHOICES, MAX_FLOWS, MAX_STEPS, MAX_LINE, MAX_INPUT, MAX_COUNT}

a_story : MAX_STORY ≡ 16777216
a_story = refl

nesting : MAX_NESTING ≡ 120
nesting = refl

a_text : MAX_TEXT ≡ 1048576
a_text = refl

the_stack : MAX_STACK ≡ 10000
the_stack = refl

marks : MAX_MARKS ≡ 100000
marks = refl

sections : MAX_SECTIONS ≡ 1000
sections = refl

frames : MAX_FRAMES ≡ 1000
frames = refl

threads : MAX_THREADS ≡ 100
threads = refl

choices : MAX_CHOICES ≡ 1000
choices = refl

flows : MAX_FLOWS ≡ 100
flows = refl

steps : MAX_STEPS ≡ 1000000
steps = refl

a_line : MAX_LINE ≡ 1048576
a_line = refl

an_input : MAX_INPUT ≡ 67108864
an_input = refl

a_count : MAX_COUNT ≡ 2147483647
a_count = refl

-- The worked example (RULES.md, section 12.8): its bytes, and what it prints.
use Rattle.std.specs.Prelude.{ℕ, List, ◌++◌}
use Rattle.text.specs.Words.{ascii}

unfoldable pub input : List ℕ
input =
    ascii "handshake=1000 upgrade=10000 exchange=2000 punch=100 interval=40 payload=32 private=0 upgrades=1\n"
    ++ ascii "do=start at=0 source=5 relay=9 circuit=7\n"
    ++ ascii "do=up at=10 peer=5 conn=7 via=circuit live=7 offer=7:4 pending=0 own=-\n"
    ++ ascii "do=input at=20 stream=4 kind=ready data=- live=7 offer=7:8 pending=0 own=-\n"
    ++ ascii "do=input at=60 stream=4 kind=data data=0f0864120b04c000000991020fa1cd03 live=7 offer=7:8 pending=0 own=-\n"
    ++ ascii "do=tick at=130 live=7 offer=7:8 own=-\n"
    ++ ascii "do=tick at=180 live=7 offer=7:8 own=-\n"

abbrev pub printed : List ℕ
printed =
    ascii "n=1 out=none\n"
    ++ ascii "n=2 out=path peer=5 relay=9 conn=7\n"
    ++ ascii "n=2 out=open conn=7 stream=4\n"
    ++ ascii "n=3 out=send conn=7 stream=4 data=020864\n"
    ++ ascii "n=4 out=send conn=7 stream=4 data=0308ac02\n"
    ++ ascii "n=4 out=reset conn=7 stream=4\n"
    ++ ascii "n=5 out=burst times=2 payload=32 target=04c000000991020fa1cd03\n"
    ++ ascii "n=6 out=burst times=1 payload=32 target=04c000000991020fa1cd03\n"
    ++ ascii "n=6 out=open conn=7 stream=8\n"

mod RelayAgain
mod RelayAll
mod RelayAnew
mod RelayCalls
mod RelayRefused
mod Replacing
